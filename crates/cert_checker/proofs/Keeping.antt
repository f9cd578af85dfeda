-- What a Yes leaves of the chains.
use Rattle.std.proofs.Common.{◌≡◌, ◌∙◌, ◌+◌, ◌<◌, ◌≤◌, ℕ, Bool, true, false, cond, List, [], ◌∷◌, length, drop, map, filter, sym, ap, subst}
use Rattle.std.proofs.Common.{refl, arith, inl, inr}
use Rattle.std.specs.Prelude.{Contains}
use Rattle.std.specs.List.{AllByRecursion, enumerate_from}
use Rattle.std.proofs.lemmas.Bool.{cases_eq}
use Rattle.std.proofs.lemmas.List.Elements.{All-nil, All-same}
use Rattle.grid_exact.specs.Geometry.{Place}
use Rattle.arc_map.specs.Allowed.{IsAllowed, IsPath}
use Rattle.arc_map.specs.Allowed.IsAllowed.{Neighbours, Shortcut}
use Rattle.arc_map.specs.Chains.{Chain, IsOtherEdge, IsWithinBound, chain_at}
use Rattle.arc_map.specs.Paths.{vertices_at}
use Rattle.arc_map.specs.Records.{Record}
use Rattle.arc_map.specs.Vertices.{Vertex}
use Rattle.arc_map.specs.Work.{chain_in}
use Rattle.arc_map.specs.declared.refs.ChainRef.{ChainRef}
use Rattle.monotone_split.proofs.Maps.{chain_thinned, chain_same}
use Rattle.monotone_split.proofs.Numbers.{path_in}
use Rattle.cert_checker.specs.Judged.{AllowedIn, AreJudged, Demand, IsAccepted, free_numbers, is_free, replaced}
use Rattle.cert_checker.specs.Laws.{IsThinnedNearby, SkipNearby, YesKeepsChains}
use Rattle.cert_checker.specs.declared.verdicts.Verdict.TheVariants.{Yes}
use Rattle.cert_checker.proofs.Accepting.{leads_from, path_from}
use Rattle.cert_checker.proofs.Sound.{IsFreeNumber, free_from, free_thinned}

-- ---- paths that skip vertices nearby

path_weaker : (P Q : Vertex → List Vertex → Vertex → Type 0) → ((v : Vertex) (skipped : List Vertex) (w : Vertex) → P v skipped w
    → Q v skipped w) → (v : Vertex) (ws kept : List Vertex) → IsPath P v ws kept → IsPath Q v ws kept
path_weaker P Q f v ws [] path = path
path_weaker P Q f v ws (w ∷ kept) path = (path.0, path.1, path.2, f v path.0 w path.3, path_weaker P Q f w path.1 kept path.4)

allowed_nearby : (Near : Place → Place → Place → Type 0) (IsEdge : Vertex → Vertex → Type 0) (IsPoint : Place
    → Type 0) (v : Vertex) (skipped : List Vertex) (w : Vertex) → IsAllowed Near IsEdge IsPoint v skipped w → SkipNearby Near v skipped w
allowed_nearby Near IsEdge IsPoint v skipped w (Neighbours none) =
    All-same (λ u. Near v.place w.place u.place) skipped [] none (All-nil (λ u. Near v.place w.place u.place))
allowed_nearby Near IsEdge IsPoint v skipped w (Shortcut s) = s.near

whole_path : (Near : Place → Place → Place → Type 0) (v : Vertex) (ws : List Vertex) → IsPath (SkipNearby Near) v ws ws
whole_path Near v [] = refl
whole_path Near v (w ∷ ws) = ([], ws, refl, All-nil (λ u. Near v.place w.place u.place), whole_path Near w ws)

stays_nearby : (Near : Place → Place → Place → Type 0) (before after : Chain) → after ≡ before → IsThinnedNearby Near before after
stays_nearby Near before after same = subst (IsThinnedNearby Near before) (sym same)
    (record { first_stays = refl; path = whole_path Near before.first before.rest })

-- ---- numbers that rise

abbrev RiseFrom : ℕ → List ℕ → Type 0
RiseFrom n [] = Unit {0}
RiseFrom n (k ∷ ks) = (n ≤ k) × RiseFrom (k + 1) ks

rise_lower : (n m : ℕ) (ks : List ℕ) → m ≤ n → RiseFrom n ks → RiseFrom m ks
rise_lower n m [] lower h = tt
rise_lower n m (k ∷ ks) lower h = (omega (arith, h.0), h.1)

kept_rise : {X : Type 0} (f : X → ℕ) (n : ℕ) (b : Bool) (x : X) (ys : List X) → f x ≡ n → RiseFrom (n + 1) (map f ys)
    → RiseFrom n (map f (cond b (x ∷ ys) ys))
kept_rise f n true x ys e h = (omega (arith, e), subst (λ m. RiseFrom (m + 1) (map f ys)) (sym e) h)
kept_rise f n false x ys e h = rise_lower (n + 1) n (map f ys) (omega arith) h

numbers_rise : (held : List ℕ) (refs : List ChainRef) (n : ℕ)
    → RiseFrom n (map (λ chain. chain.0) (filter (is_free held) (enumerate_from n refs)))
numbers_rise held [] n = tt
numbers_rise held (r ∷ rs) n = kept_rise (λ chain. chain.0) n (is_free held (n, r)) (n, r)
    (filter (is_free held) (enumerate_from (n + 1) rs)) refl (numbers_rise held rs (n + 1))

-- ---- entries that are judged Yes

-- chains before the numbers stay
below_stay : (d : Demand) (points : List Place) (chains : List Chain) (ks : List ℕ) (e : ℕ) (rs : List Record) (after : List Chain) (n k :
    ℕ) → RiseFrom n ks → k < n → AreJudged d points chains ks e rs Yes after → chain_at after k ≡ chain_at chains k
below_stay d points chains ks e [] after n k rise below judged = ap (λ cs. chain_at cs k) (sym judged.1)
below_stay d points chains [] e (r ∷ rs) after n k rise below judged = absurd judged
below_stay d points chains (l ∷ ls) e (r ∷ rs) after n k rise below (inl fault) = absurd fault.0
below_stay d points chains (l ∷ ls) e (r ∷ rs) after n k rise below (inr judged) =
    let other : k ≡ l → ⊥ = omega (arith, rise.0, below) in
    below_stay d points (replaced chains l r) ls (e + 1) rs after (l + 1) k rise.1 (omega (arith, rise.0, below)) judged.1
    ∙ chain_same chains l k (vertices_at (chain_at chains l) (drop 1 r.kept)) other

-- a chain that is replaced skips vertices nearby
replaced_nearby : (d : Demand) (points : List Place) (chains : List Chain) (k : ℕ) (r : Record) → k < length chains
    → IsAccepted (AllowedIn d points chains k) (chain_at chains k) r
    → IsThinnedNearby (IsWithinBound d.weights.x d.weights.y d.bound) (chain_at chains k) (chain_at (replaced chains k r) k)
replaced_nearby d points chains k r known accepted =
    let Near = IsWithinBound d.weights.x d.weights.y d.bound in
    let c = chain_at chains k in
    let kept = vertices_at c (drop 1 r.kept) in
    let leads = leads_from (AllowedIn d points chains k) (length c.rest) r.kept
    (path_from (AllowedIn d points chains k) c r.kept accepted.kept accepted.steps) in
    let path = path_in d.weights.x d.weights.y d.bound chains points k (drop 1 r.kept) leads in
    subst (IsThinnedNearby Near c) (sym (chain_thinned chains k kept known))
    (record {
      first_stays = refl;
      path = path_weaker (IsAllowed Near (IsOtherEdge chains k) (Contains points)) (SkipNearby Near)
          (allowed_nearby Near (IsOtherEdge chains k) (Contains points)) c.first c.rest kept path;
    })

each_nearby : (d : Demand) (held : List ℕ) (points : List Place) (chains : List Chain) (ks : List ℕ) (e : ℕ) (rs : List Record) (after :
    List Chain) (n k : ℕ) → RiseFrom n ks → AllByRecursion (IsFreeNumber held chains) ks → AreJudged d points chains ks e rs Yes after
    → IsThinnedNearby (IsWithinBound d.weights.x d.weights.y d.bound) (chain_at chains k) (chain_at after k)
each_nearby d held points chains ks e [] after n k rise free judged =
    stays_nearby (IsWithinBound d.weights.x d.weights.y d.bound) (chain_at chains k) (chain_at after k)
    (ap (λ cs. chain_at cs k) (sym judged.1))
each_nearby d held points chains [] e (r ∷ rs) after n k rise free judged = absurd judged
each_nearby d held points chains (l ∷ ls) e (r ∷ rs) after n k rise free (inl fault) = absurd fault.0
each_nearby d held points chains (l ∷ ls) e (r ∷ rs) after n k rise free (inr judged) = elim (cases_eq k l) [
  | inl same ↦
      let Near = IsWithinBound d.weights.x d.weights.y d.bound in
      let stays : chain_at after l ≡ chain_at (replaced chains l r) l =
      below_stay d points (replaced chains l r) ls (e + 1) rs after (l + 1) l rise.1 (omega arith) judged.1 in
      subst (λ m. IsThinnedNearby Near (chain_at chains m) (chain_at after m)) (sym same)
      (subst (IsThinnedNearby Near (chain_at chains l)) (sym stays) (replaced_nearby d points chains l r free.0.known judged.0))
  | inr other ↦
      let Near = IsWithinBound d.weights.x d.weights.y d.bound in
      let kept = vertices_at (chain_at chains l) (drop 1 r.kept) in
      subst (λ c. IsThinnedNearby Near c (chain_at after k)) (chain_same chains l k kept other)
      (each_nearby d held points (replaced chains l r) ls (e + 1) rs after (l + 1) k rise.1 (free_thinned held chains l kept ls free.1)
      judged.1)
]

-- the chains of held arcs stay
held_stay : (d : Demand) (held : List ℕ) (points : List Place) (chains : List Chain) (ks : List ℕ) (e : ℕ) (rs : List Record) (after :
    List Chain) (k : ℕ) → AllByRecursion (IsFreeNumber held chains) ks → AreJudged d points chains ks e rs Yes after
    → Contains held (chain_at chains k).first.arc → chain_at after k ≡ chain_at chains k
held_stay d held points chains ks e [] after k free judged has = ap (λ cs. chain_at cs k) (sym judged.1)
held_stay d held points chains [] e (r ∷ rs) after k free judged has = absurd judged
held_stay d held points chains (l ∷ ls) e (r ∷ rs) after k free (inl fault) has = absurd fault.0
held_stay d held points chains (l ∷ ls) e (r ∷ rs) after k free (inr judged) has = elim (cases_eq k l) [
  | inl same ↦ absurd (free.0.free (subst (λ m. Contains held (chain_at chains m).first.arc) same has))
  | inr other ↦
      let kept = vertices_at (chain_at chains l) (drop 1 r.kept) in
      let stays = chain_same chains l k kept other in
      held_stay d held points (replaced chains l r) ls (e + 1) rs after k (free_thinned held chains l kept ls free.1) judged.1
      (subst (λ (c : Chain). Contains held c.first.arc) (sym stays) has)
      ∙ stays
]

pub yes_keeps_chains : YesKeepsChains
yes_keeps_chains d held m refs c after (inl mismatch) = absurd mismatch.0
yes_keeps_chains d held m refs c after (inr judged) =
    let free = free_from held m refs refs 0 refl in
    let rise = numbers_rise held refs 0 in
    record {
      each = λ k. each_nearby d held m.points (map (chain_in m) refs) (free_numbers held refs) 0 c.entries after 0 k rise free judged.1;
      held_stay = λ k has. held_stay d held m.points (map (chain_in m) refs) (free_numbers held refs) 0 c.entries after k free judged.1 has;
    }
