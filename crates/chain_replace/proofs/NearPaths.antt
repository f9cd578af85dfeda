-- Walks of which some vertices are left, where each vertex that is skipped is near the edge that skips it.
use Rattle.std.proofs.Common.{◌≡◌, ◌∙◌, ℕ, zero, suc, ◌+◌, ◌-◌, ◌<◌, List, [], ◌∷◌, ◌++◌, All, map, length, get_or, slice_index, refl, sym}
use Rattle.std.proofs.Common.{ap, subst, arith, append_assoc, length-append}
use Rattle.std.proofs.lemmas.List.Elements.{All-nil}
use Rattle.grid_exact.specs.Geometry.{Place}
use Rattle.grid_exact.specs.Paths.{LeadsTo}
use Rattle.grid_exact.specs.Walks.{EachEdge, end_of}
use Rattle.arc_map.specs.Vertices.{Vertex, places}
use Rattle.arc_map.specs.Allowed.{IsAllowed, IsPath}
use Rattle.arc_map.specs.Allowed.IsAllowed.{Neighbours, Shortcut}
use Rattle.arc_map.specs.Arranged.{nowhere}
use Rattle.monotone_split.proofs.WalkParts.{later_part}
use Rattle.chain_replace.specs.Thinned.{IsThinned}
use Rattle.chain_replace.proofs.BestPaths.{rising_from, last_is}

-- ---- paths that skip what is near

-- the vertices between v and w are near the edge vw
abbrev pub AreNear : (Place → Place → Place → Type 0) → Vertex → List Vertex → Vertex → Type 0
AreNear Near v skipped w = All (λ k. Near v.place w.place k.place) skipped

allowed_is_near : (Near : Place → Place → Place → Type 0) (IsEdge : Vertex → Vertex → Type 0) (IsPoint : Place
    → Type 0) (v : Vertex) (skipped : List Vertex) (w : Vertex) → IsAllowed Near IsEdge IsPoint v skipped w → AreNear Near v skipped w
allowed_is_near Near IsEdge IsPoint v skipped w (Neighbours none) =
    subst (λ (us : List Vertex). AreNear Near v us w) (sym none) (All-nil (λ (k : Vertex). Near v.place w.place k.place))
allowed_is_near Near IsEdge IsPoint v skipped w (Shortcut short) = short.near

pub path_is_near : (Near : Place → Place → Place → Type 0) (IsEdge : Vertex → Vertex → Type 0) (IsPoint : Place
    → Type 0) (v : Vertex) (ws us : List Vertex) → IsPath (IsAllowed Near IsEdge IsPoint) v ws us → IsPath (AreNear Near) v ws us
path_is_near Near IsEdge IsPoint v ws [] path = path
path_is_near Near IsEdge IsPoint v ws (u ∷ us) path =
    (path.0, path.1, path.2, allowed_is_near Near IsEdge IsPoint v path.0 u path.3, path_is_near Near IsEdge IsPoint u path.1 us path.4)

-- nothing is skipped
pub path_of_all : (Near : Place → Place → Place → Type 0) (v : Vertex) (ws : List Vertex) → IsPath (AreNear Near) v ws ws
path_of_all Near v [] = refl
path_of_all Near v (w ∷ ws) = let none : List Vertex = [] in
    (none, ws, refl, All-nil (λ (k : Vertex). Near v.place w.place k.place), path_of_all Near w ws)

pub skipped_end : (v : Vertex) (skipped : List Vertex) (w : Vertex) (rest : List Vertex) → end_of v (skipped ++ w ∷ rest) ≡ end_of w rest
skipped_end v [] w rest = refl
skipped_end v (s ∷ ss) w rest = skipped_end s ss w rest

pub path_end : (Near : Place → Place → Place → Type 0) (v : Vertex) (ws us : List Vertex) → IsPath (AreNear Near) v ws us
    → end_of v us ≡ end_of v ws
path_end Near v ws [] path = ap (λ (xs : List Vertex). end_of v xs) (sym path)
path_end Near v ws (u ∷ us) path = path_end Near u path.1 us path.4 ∙ sym (skipped_end v path.0 u path.1)
    ∙ ap (λ (xs : List Vertex). end_of v xs) (sym path.2)

pub path_joined : (Near : Place → Place → Place → Type 0) (v : Vertex) (ws us more left : List Vertex) → IsPath (AreNear Near) v ws us
    → IsPath (AreNear Near) (end_of v us) more left → IsPath (AreNear Near) v (ws ++ more) (us ++ left)
path_joined Near v ws [] more left path later = subst (λ (xs : List Vertex). IsPath (AreNear Near) v (xs ++ more) left) (sym path) later
path_joined Near v ws (u ∷ us) more left path later = (
  path.0,
  path.1 ++ more,
  ap (λ (xs : List Vertex). xs ++ more) path.2
      ∙ append_assoc path.0 (u ∷ path.1) more,
  path.3,
  path_joined Near u path.1 us more left path.4 later,
)

-- ---- the numbers of the vertices that are left

abbrev pub numbers_of : List Vertex → List ℕ
numbers_of vs = map (λ (v : Vertex). v.at) vs

-- b has the next number after a, and the place of that number in the list
abbrev pub IsNextOf : List Place → Vertex → Vertex → Type 0
IsNextOf ps a b = (b.at ≡ suc a.at) × (b.place ≡ get_or ps b.at nowhere)

-- the places between the numbers i and j are near the edge of these two
abbrev pub SkipsNear : (Place → Place → Place → Type 0) → List Place → ℕ → ℕ → Type 0
SkipsNear Near ps i j = (n : ℕ) → i < n → n < j → Near (get_or ps i nowhere) (get_or ps j nowhere) (get_or ps n nowhere)

target_number : (ps : List Place) (v : Vertex) (skipped : List Vertex) (w : Vertex) (rest : List Vertex)
    → EachEdge (IsNextOf ps) v (skipped ++ w ∷ rest) → w.at ≡ v.at + length skipped + 1
target_number ps v [] w rest spelled = let next = spelled.0.0 in omega arith
target_number ps v (s ∷ ss) w rest spelled = let next = spelled.0.0 in omega (arith, target_number ps s ss w rest spelled.1)

target_place : (ps : List Place) (v : Vertex) (skipped : List Vertex) (w : Vertex) (rest : List Vertex)
    → EachEdge (IsNextOf ps) v (skipped ++ w ∷ rest) → w.place ≡ get_or ps w.at nowhere
target_place ps v [] w rest spelled = spelled.0.1
target_place ps v (s ∷ ss) w rest spelled = target_place ps s ss w rest spelled.1

skipped_place : (ps : List Place) (v : Vertex) (skipped : List Vertex) (w : Vertex) (rest : List Vertex)
    → EachEdge (IsNextOf ps) v (skipped ++ w ∷ rest) → (j : ℕ) (d : Vertex) → j < length skipped
    → (get_or skipped j d).place ≡ get_or ps (v.at + 1 + j) nowhere
skipped_place ps v [] w rest spelled j d below = absurd (omega arith)
skipped_place ps v (s ∷ ss) w rest spelled zero d below =
    let next = spelled.0.0 in
    let same : s.at ≡ v.at + 1 + 0 = omega arith in
    spelled.0.1 ∙ ap (λ (n : ℕ). get_or ps n nowhere) same
skipped_place ps v (s ∷ ss) w rest spelled (suc j) d below =
    let next = spelled.0.0 in
    let same : s.at + 1 + j ≡ v.at + 1 + suc j = omega arith in
    skipped_place ps s ss w rest spelled.1 j d (omega arith) ∙ ap (λ (n : ℕ). get_or ps n nowhere) same

near_skips : (Near : Place → Place → Place → Type 0) (ps : List Place) (v : Vertex) (skipped : List Vertex) (w : Vertex) (rest :
    List Vertex) → v.place ≡ get_or ps v.at nowhere → EachEdge (IsNextOf ps) v (skipped ++ w ∷ rest) → AreNear Near v skipped w
    → SkipsNear Near ps v.at w.at
near_skips Near ps v skipped w rest here spelled near n above below =
    let j = n - (v.at + 1) in
    let number = target_number ps v skipped w rest spelled in
    let inside : n - (v.at + 1) < length skipped = omega arith in
    let same : v.at + 1 + (n - (v.at + 1)) ≡ n = omega arith in
    let place : (get_or skipped j w).place ≡ get_or ps n nowhere = skipped_place ps v skipped w rest spelled j w inside
    ∙ ap (λ (i : ℕ). get_or ps i nowhere) same in
    subst (λ (p : Place). Near p (get_or ps w.at nowhere) (get_or ps n nowhere)) here
    (subst (λ (p : Place). Near v.place p (get_or ps n nowhere)) (target_place ps v skipped w rest spelled)
    (subst (λ (p : Place). Near v.place w.place p) place (near j w inside)))

pub near_leads : (Near : Place → Place → Place → Type 0) (ps : List Place) (v : Vertex) (ws us : List Vertex)
    → v.place ≡ get_or ps v.at nowhere → EachEdge (IsNextOf ps) v ws → IsPath (AreNear Near) v ws us
    → LeadsTo (SkipsNear Near ps) (v.at + length ws) v.at (numbers_of us)
near_leads Near ps v ws [] here spelled path = omega (arith, ap length path)
near_leads Near ps v ws (u ∷ us) here spelled path =
    let skipped = path.0 in
    let rest = path.1 in
    let spelled' = subst (λ (xs : List Vertex). EachEdge (IsNextOf ps) v xs) path.2 spelled in
    let number = target_number ps v skipped u rest spelled' in
    let up : v.at < u.at = omega arith in
    let last : u.at + length rest ≡ v.at + length ws = omega (arith, ap length path.2, length-append skipped (u ∷ rest)) in (
      up,
      near_skips Near ps v skipped u rest here spelled' path.3,
      subst (λ (m : ℕ). LeadsTo (SkipsNear Near ps) m u.at (numbers_of us)) last
          (near_leads Near ps u rest us (target_place ps v skipped u rest spelled') (later_part (IsNextOf ps) v skipped u rest spelled')
          path.4),
    )

pub places_left : (Near : Place → Place → Place → Type 0) (ps : List Place) (v : Vertex) (ws us : List Vertex) → EachEdge (IsNextOf ps) v ws
    → IsPath (AreNear Near) v ws us → places us ≡ map (λ i. get_or ps i nowhere) (numbers_of us)
places_left Near ps v ws [] spelled path = refl
places_left Near ps v ws (u ∷ us) spelled path =
    let spelled' = subst (λ (xs : List Vertex). EachEdge (IsNextOf ps) v xs) path.2 spelled in
    ap (λ (p : Place). p ∷ places us) (target_place ps v path.0 u path.1 spelled')
    ∙ ap (λ (qs : List Place). get_or ps u.at nowhere ∷ qs) (places_left Near ps u path.1 us
    (later_part (IsNextOf ps) v path.0 u path.1 spelled') path.4)

-- ---- thinned lists of places

step_at : (Pair : ℕ → ℕ → Type 0) (m i : ℕ) (rest : List ℕ) → LeadsTo Pair m i rest → (n : ℕ) → n + 1 < length (i ∷ rest)
    → Pair (slice_index (i ∷ rest) n) (slice_index (i ∷ rest) (n + 1))
step_at Pair m i [] leads n below = absurd (omega arith)
step_at Pair m i (next ∷ rest) leads zero below = leads.1
step_at Pair m i (next ∷ rest) leads (suc n) below =
    let place : suc (n + 1) ≡ suc n + 1 = omega arith in
    subst (λ (k : ℕ). Pair (slice_index (next ∷ rest) n) (slice_index (i ∷ next ∷ rest) k)) place
    (step_at Pair m next rest leads.2 n (omega arith))

pub thinned_by_path : (Near : Place → Place → Place → Type 0) (before after : List Place) (m : ℕ) (rest : List ℕ) → length before ≡ m + 1
    → LeadsTo (SkipsNear Near before) m 0 rest → after ≡ map (λ i. get_or before i nowhere) (0 ∷ rest)
    → IsThinned Near before after (0 ∷ rest)
thinned_by_path Near before after m rest size leads places =
    let count : suc (length rest) - 1 ≡ length rest = omega arith in
    let last : m ≡ length before - 1 = omega arith in
    record {
      some = ((λ some. omega arith), (λ some. omega arith));
      first = refl;
      last = rw count (last_is (SkipsNear Near before) m 0 rest leads ∙ last);
      rising = rising_from (SkipsNear Near before) m 0 rest leads;
      places = places;
      near = λ n i below above under. step_at (SkipsNear Near before) m 0 rest leads n below i above under;
    }

pub thinned_none : (Near : Place → Place → Place → Type 0) → IsThinned Near [] [] []
thinned_none Near = record {
  some = ((λ some. some), (λ some. some));
  first = refl;
  last = refl;
  rising = λ k below. absurd (omega arith);
  places = refl;
  near = λ n i below above under. absurd (omega arith);
}
