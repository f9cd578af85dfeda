-- The border of polygons: which are missing, and the one answer.
use Rattle.std.proofs.Common.{◌≡◌, ◌∙◌, ℕ, ◌<◌, Bool, true, false, cond, nat_lt, List, [], ◌∷◌, Option, None, Some, All, length, get_or}
use Rattle.std.proofs.Common.{refl, sym, ap, subst, inl, inr, arith, ltb-true, ltb-false, lt-ltb}
use Rattle.std.specs.Prelude.{◌⊎◌, ℤ}
use Rattle.std.proofs.lemmas.Bool.{cases_Bool}
use Rattle.std.proofs.lemmas.List.Elements.{All-nil, All-cons, All-head, All-tail, All-get_or}
use Rattle.std.proofs.lemmas.Option.{none-some, same_Some}
use Rattle.arc_map.specs.Map.{Map}
use Rattle.topo_reader.specs.Ends.{HasEvenEnds}
use Rattle.topo_reader.specs.Reads.{TopologyRead}
use Rattle.dissolve.specs.Odd.{odd_arcs}
use Rattle.dissolve.specs.Texts.{rings_text}
use Rattle.dissolve.proofs.Single.{same-rings}
use Rattle.dissolve.proofs.Whole.{border-closed, border-used, border-once, border-crossed}
use Rattle.top_call.specs.declared.forms.Options.{Options}
use Rattle.top_call.specs.declared.status.Status.{Status}
use Rattle.top_call.specs.declared.status.Status.TheVariants.{NoMemory, NoPolygon}
use Rattle.top_call.specs.Maps.{IsLoaded, IsRefusal, IsRefused}
use Rattle.top_call.specs.Answers.{plain, first_missing, IsBorderText, IsDissolved, IsMissing, IsBorderRefusal, RefusedMap, Missed}
use Rattle.top_call.specs.Headline.{IsBorderOf}
use Rattle.top_call.proofs.NotRefused.{loaded_not_refused}
use Rattle.top_call.proofs.OneRefusal.{refusal_is_one}
use Rattle.top_call.proofs.OneTree.{text_has_one_topology}
use Rattle.top_call.proofs.ReadMaps.{read_map_is_map}

-- ---- which polygons a map has

missing_by : (count k : ℕ) (ks : List ℕ) (o : Option ℕ) (b : Bool) → nat_lt k count ≡ b → first_missing count (k ∷ ks) ≡ o
    → cond b (first_missing count ks) (Some k) ≡ o
missing_by count k ks o b is e = subst (λ (c : Bool). cond c (first_missing count ks) (Some k) ≡ o) is e

-- where none is missing, each is there
pub none_missing : (count : ℕ) (ks : List ℕ) → first_missing count ks ≡ None → All (λ k. k < count) ks
none_missing count [] none = All-nil (λ k. k < count)
none_missing count (k ∷ ks) none = elim (cases_Bool (nat_lt k count)) [
  | inl there ↦ All-cons (λ j. j < count) k ks (ltb-true k count there) (none_missing count ks (missing_by count k ks None true there none))
  | inr missing ↦ absurd (none-some k (sym (missing_by count k ks None false missing none)))
]

-- where each is there, none is missing
pub all_there : (count : ℕ) (ks : List ℕ) → All (λ k. k < count) ks → first_missing count ks ≡ None
all_there count [] all = refl
all_there count (k ∷ ks) all =
    rw (lt-ltb k count (All-head (λ j. j < count) k ks all)) (all_there count ks (All-tail (λ j. j < count) k ks all))

-- each of them is a polygon with even ends where all polygons are
pub even_chosen : (m : Map) (ks : List ℕ) → All (HasEvenEnds m.arcs) m.polygons → All (λ k. k < length m.polygons) ks
    → All (λ k. HasEvenEnds m.arcs (get_or m.polygons k [])) ks
even_chosen m ks even known = λ at d within. All-get_or (HasEvenEnds m.arcs) m.polygons (get_or ks at d) [] (known at d within) even

-- ---- one answer

border_text_is_one : (m : Map) (polygons x y : List ℕ) → IsBorderText m polygons x → IsBorderText m polygons y → x ≡ y
border_text_is_one m polygons x y first second =
    first.written ∙ ap rings_text (same-rings m (odd_arcs m polygons) first.rings second.rings first.border second.border)
    ∙ sym second.written

pub dissolved_is_one : (polygons text x y : List ℕ) → IsDissolved polygons text x → IsDissolved polygons text y → x ≡ y
dissolved_is_one polygons text x y first second =
    let same = text_has_one_topology text first.topology second.topology first.loaded.topology second.loaded.topology in
    border_text_is_one first.topology.map polygons x y first.is_text
    (subst (λ (t : TopologyRead). IsBorderText t.map polygons y) (sym same) second.is_text)

missing_is_one : (polygons text : List ℕ) (j k : ℕ) → IsMissing polygons text j → IsMissing polygons text k → j ≡ k
missing_is_one polygons text j k first second =
    let same = text_has_one_topology text first.topology second.topology first.loaded.topology second.loaded.topology in
    same_Some j k (sym first.first ∙ ap (λ (t : TopologyRead). first_missing (length t.map.polygons) polygons) same ∙ second.first)

-- ---- no refusal

-- a text with such a map is not refused
pub known_not_refused : (polygons text : List ℕ) (t : TopologyRead) (held : List ℕ) (s : Status) → IsLoaded plain text t held
    → first_missing (length t.map.polygons) polygons ≡ None → IsBorderRefusal polygons text s → ⊥
known_not_refused polygons text t held s loaded known (RefusedMap why) = loaded_not_refused plain text t held s loaded why
known_not_refused polygons text t held s loaded known (Missed k missing is) =
    let same = text_has_one_topology text t missing.topology loaded.topology missing.loaded.topology in
    none-some k (sym known ∙ ap (λ (u : TopologyRead). first_missing (length u.map.polygons) polygons) same ∙ missing.first)

pub dissolved_not_refused : (polygons text x : List ℕ) (s : Status) → IsDissolved polygons text x → IsBorderRefusal polygons text s → ⊥
dissolved_not_refused polygons text x s is why = known_not_refused polygons text is.topology is.held s is.loaded is.known why

pub border_refusal_is_one : (polygons text : List ℕ) (s u : Status) → IsBorderRefusal polygons text s → IsBorderRefusal polygons text u
    → s ≡ u
border_refusal_is_one polygons text s u (RefusedMap why) (RefusedMap also) = refusal_is_one plain text s u why also
border_refusal_is_one polygons text s u (RefusedMap why) (Missed k missing is) =
    absurd (loaded_not_refused plain text missing.topology missing.held s missing.loaded why)
border_refusal_is_one polygons text s u (Missed k missing is) (RefusedMap why) =
    absurd (loaded_not_refused plain text missing.topology missing.held u missing.loaded why)
border_refusal_is_one polygons text s u (Missed j missing is) (Missed k also too) =
    is ∙ ap NoPolygon (missing_is_one polygons text j k missing also) ∙ sym too

-- ---- what is written is a border

pub dissolved_is_border : (polygons text bytes : List ℕ) → IsDissolved polygons text bytes → IsBorderOf polygons text bytes
dissolved_is_border polygons text bytes is =
    let m = is.topology.map in
    let rings = is.is_text.rings in
    let border = is.is_text.border in
    let known = none_missing (length m.polygons) polygons is.known in
    record {
      topology = is.topology;
      held = is.held;
      loaded = is.loaded;
      known = known;
      rings = rings;
      border = border;
      written = is.is_text.written;
      closed = border-closed m polygons rings border;
      used = border-used m polygons rings border;
      once = border-once m polygons rings border;
      crossed = border-crossed m polygons rings (read_map_is_map text is.topology is.loaded.topology) known border;
    }

-- ---- what was done

pub border_refused : (options : Options) (polygons text : List ℕ) (s : Status) → options ≡ plain → IsRefused options text s
    → (s ≡ NoMemory) ⊎ IsBorderRefusal polygons text s
border_refused options polygons text s is_plain (inl none) = inl none
border_refused options polygons text s is_plain (inr why) = inr (RefusedMap (subst (λ (o : Options). IsRefusal o text s) is_plain why))

-- the map, the numbers and the count that were at hand are those of the text and the list
pub record AreAtHand (options : Options) (polygons text : List ℕ) (t : TopologyRead) (held : List ℕ) (m : Map) (count : ℕ)
    (numbers : List ℕ) : Type 0 where
  pub is_plain : options ≡ plain
  pub loaded : IsLoaded options text t held
  pub map_is : m ≡ t.map
  pub count_is : count ≡ length m.polygons
  pub numbers_are : numbers ≡ polygons

as_plain : (options : Options) (text : List ℕ) (t : TopologyRead) (held : List ℕ) → options ≡ plain → IsLoaded options text t held
    → IsLoaded plain text t held
as_plain options text t held is loaded = subst (λ (o : Options). IsLoaded o text t held) is loaded

missing_as : (options : Options) (polygons text : List ℕ) (t : TopologyRead) (held : List ℕ) (m : Map) (count : ℕ) (numbers : List ℕ)
    (o : Option ℕ) → AreAtHand options polygons text t held m count numbers → o ≡ first_missing count numbers
    → first_missing (length t.map.polygons) polygons ≡ o
missing_as options polygons text t held m count numbers o are is =
    sym (is ∙ ap (λ (n : ℕ). first_missing n numbers) (are.count_is ∙ ap (λ (n : Map). length n.polygons) are.map_is)
    ∙ ap (first_missing (length t.map.polygons)) are.numbers_are)

pub border_missed : (options : Options) (polygons text : List ℕ) (t : TopologyRead) (held : List ℕ) (m : Map) (count : ℕ)
    (numbers : List ℕ) (k : ℕ) → AreAtHand options polygons text t held m count numbers → Some k ≡ first_missing count numbers
    → IsBorderRefusal polygons text (NoPolygon k)
border_missed options polygons text t held m count numbers k are is =
    Missed k (record {
      topology = t;
      held = held;
      loaded = as_plain options text t held are.is_plain are.loaded;
      first = missing_as options polygons text t held m count numbers (Some k) are is;
    }) refl

pub dissolved_by : (options : Options) (polygons text : List ℕ) (t : TopologyRead) (held : List ℕ) (m : Map) (count : ℕ)
    (numbers bytes : List ℕ) → AreAtHand options polygons text t held m count numbers → None ≡ first_missing count numbers
    → IsBorderText m numbers bytes → IsDissolved polygons text bytes
dissolved_by options polygons text t held m count numbers bytes are is by =
    let of_map = subst (λ (n : Map). IsBorderText n numbers bytes) are.map_is by in
    record {
      topology = t;
      held = held;
      loaded = as_plain options text t held are.is_plain are.loaded;
      known = missing_as options polygons text t held m count numbers None are is;
      is_text = subst (λ (ns : List ℕ). IsBorderText t.map ns bytes) are.numbers_are of_map;
    }
