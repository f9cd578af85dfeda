-- Marks of arcs as they are set, the list of the marked arcs, and that a map is arranged beside its held list.
use Rattle.std.proofs.Common.{◌≡◌, ◌⊎◌, ◌↔◌, inl, inr, ◌+◌, ◌<◌, ◌≤◌, ℕ, List, [], ◌∷◌, ◌++◌, Bool, true, false, length, get_or, set, sym}
use Rattle.std.proofs.Common.{subst, arith, refl}
use Rattle.std.specs.Prelude.{◌^◌, All, Contains}
use Rattle.std.specs.List.Sorted.{IsStrictlyIncreasing}
use Rattle.std.proofs.lemmas.List.{get_or-set_other, get_or-set_same, get_or_past}
use Rattle.std.proofs.lemmas.Bool.{both_ways, cases_eq, cases_lt}
use Rattle.std.proofs.lemmas.Grind.{elements}
use Rattle.std.proofs.lemmas.List.Elements.{Contains-get_or, Contains-append_left, Contains-push, Contains-push_cases}
use Rattle.arc_map.specs.ArcList.{IsArcList}
use Rattle.arc_map.specs.Map.{Map}
use Rattle.arc_map.specs.Arranged.{EdgesClash, IsHeld, IsHeldList, IsMapArranged, IsMapEdge, PointIsOn}
use Rattle.arc_map.specs.Arranged.IsHeld.{ByFirst, BySecond, ByPoint}
use Rattle.arc_map.specs.declared.refs.EdgeRef.{EdgeRef}
use Rattle.sweep_index.specs.Pairs.{ArePairsOf, AreTownsOf, IsPairOf, IsTownOf}
use Rattle.arc_map.proofs.Rising.{rising-length}
use Rattle.arrangement_check.specs.Marks.{IsMarked, MarksClashes, MarksHeld}
use Rattle.arrangement_check.proofs.Lesser.{earlier_says}
use Rattle.arrangement_check.proofs.Nearby.{box_holds, boxes_meet}
use Rattle.arrangement_check.proofs.Walking.{Walked, walk_end, walk_step}

-- ---- one more mark

pub mark_made : (marks : List Bool) (arc : ℕ) → arc < length marks → IsMarked (set marks arc true) arc
mark_made marks arc within = get_or-set_same marks arc true false within

pub mark_kept : (marks : List Bool) (arc other : ℕ) → arc < length marks → IsMarked marks other → IsMarked (set marks arc true) other
mark_kept marks arc other within marked = elim (cases_eq other arc) [
  | inl same ↦ subst (λ k. IsMarked (set marks arc true) k) (sym same) (mark_made marks arc within)
  | inr differs ↦ rw (get_or-set_other marks arc other true false differs) marked
]

mark_only : (marks : List Bool) (arc other : ℕ) → IsMarked (set marks arc true) other → (other ≡ arc) ⊎ IsMarked marks other
mark_only marks arc other marked = elim (cases_eq other arc) [
  | inl same ↦ inl same
  | inr differs ↦ inr (rw (get_or-set_other marks arc other true false differs) at marked)
]

held_cases : (m : Map) (marks : List Bool) (arc other : ℕ) → MarksHeld m marks → IsHeld m arc → ((other ≡ arc) ⊎ IsMarked marks other)
    → IsHeld m other
held_cases m marks arc other only held (inl same) = subst (IsHeld m) (sym same) held
held_cases m marks arc other only held (inr marked) = only other marked

-- a held arc more is marked
pub held_more : (m : Map) (marks : List Bool) (arc : ℕ) → MarksHeld m marks → IsHeld m arc → MarksHeld m (set marks arc true)
held_more m marks arc only held other marked = held_cases m marks arc other only held (mark_only marks arc other marked)

pub clashes_more : (m : Map) (marks : List Bool) (arc : ℕ) → arc < length marks → MarksClashes m marks → MarksClashes m (set marks arc true)
clashes_more m marks arc within clashes e f first second rising clash =
    let both = clashes e f first second rising clash in
    (mark_kept marks arc e.arc within both.0, mark_kept marks arc f.arc within both.1)

-- each held arc is marked, since the arcs of edges that clash are, and those on which feature points lie
pub held_marked : (m : Map) (marks : List Bool) → MarksClashes m marks
    → ((k : ℕ) (e : EdgeRef) → k < length m.points → IsMapEdge m e → PointIsOn m k e → IsMarked marks e.arc) → (arc : ℕ) → IsHeld m arc
    → IsMarked marks arc
held_marked m marks clashes points arc (ByFirst e f is first second rising clash) =
    subst (IsMarked marks) is (clashes e f first second rising clash).0
held_marked m marks clashes points arc (BySecond e f is first second rising clash) =
    subst (IsMarked marks) is (clashes e f first second rising clash).1
held_marked m marks clashes points arc (ByPoint k e is within edge on) = subst (IsMarked marks) is (points k e within edge on)

-- ---- the marks of a walk

abbrev pub ArePairMarked : List Bool → EdgeRef × EdgeRef → Type 0
ArePairMarked marks pair = IsMarked marks pair.0.arc × IsMarked marks pair.1.arc

-- the arcs of two edges that clash are marked
pub pair_held : (m : Map) (e f : EdgeRef) (marks after both : List Bool) → IsPairOf m (e, f) → EdgesClash m e f
    → after ≡ set marks e.arc true → both ≡ set after f.arc true → MarksHeld m marks → MarksHeld m both
pair_held m e f marks after both pair clash is too only =
    let rising = earlier_says e f pair.rising in
    rw (too, is) (held_more m (set marks e.arc true) f.arc (held_more m marks e.arc only
    (ByFirst e f refl pair.first pair.second rising clash)) (BySecond e f refl pair.first pair.second rising clash))

pub pair_marked : (Hits : EdgeRef × EdgeRef → Type 0) (e f : EdgeRef) (marks after both : List Bool) (all left rest :
    List (EdgeRef × EdgeRef)) → left ≡ (e, f) ∷ rest → e.arc < length marks → f.arc < length after → after ≡ set marks e.arc true
    → both ≡ set after f.arc true → Walked Hits (ArePairMarked marks) all left → Walked Hits (ArePairMarked both) all rest
pair_marked Hits e f marks after both all left rest step first second is too walked =
    let kept = λ (arc : ℕ) (marked : IsMarked marks arc). subst (λ xs. IsMarked xs arc) (sym too)
    (mark_kept after f.arc arc second (subst (λ xs. IsMarked xs arc) (sym is) (mark_kept marks e.arc arc first marked))) in
    let made_first : IsMarked both e.arc = subst (λ xs. IsMarked xs e.arc) (sym too)
    (mark_kept after f.arc e.arc second (subst (λ xs. IsMarked xs e.arc) (sym is) (mark_made marks e.arc first))) in
    let made_second : IsMarked both f.arc = subst (λ xs. IsMarked xs f.arc) (sym too) (mark_made after f.arc second) in
    walk_step Hits (ArePairMarked marks) (ArePairMarked both) all left rest (e, f) step walked (λ _. (made_first, made_second))
    (λ pair done. (kept pair.0.arc done.0, kept pair.1.arc done.1))

pub pairs_marked : (m : Map) (marks : List Bool) (all left : List (EdgeRef × EdgeRef)) → ArePairsOf m all → left ≡ []
    → Walked (λ pair. EdgesClash m pair.0 pair.1) (ArePairMarked marks) all left → MarksClashes m marks
pairs_marked m marks all left pairs none walked e f first second rising clash =
    walk_end (λ pair. EdgesClash m pair.0 pair.1) (ArePairMarked marks) all left none walked (e, f)
    (pairs.all e f first second rising (boxes_meet m e f clash)) clash

abbrev pub IsTownMarked : List Bool → ℕ × EdgeRef → Type 0
IsTownMarked marks town = IsMarked marks town.1.arc

-- the arc on which a feature point lies is marked
pub town_held : (m : Map) (k : ℕ) (e : EdgeRef) (marks after : List Bool) → IsTownOf m (k, e) → PointIsOn m k e
    → after ≡ set marks e.arc true → MarksHeld m marks → MarksHeld m after
town_held m k e marks after town on is only = rw is (held_more m marks e.arc only (ByPoint k e refl town.point town.edge on))

pub town_clashes : (m : Map) (arc : ℕ) (marks after : List Bool) → arc < length marks → after ≡ set marks arc true → MarksClashes m marks
    → MarksClashes m after
town_clashes m arc marks after within is clashes = rw is (clashes_more m marks arc within clashes)

pub town_marked : (Hits : ℕ × EdgeRef → Type 0) (k : ℕ) (e : EdgeRef) (marks after : List Bool) (all left rest : List (ℕ × EdgeRef))
    → left ≡ (k, e) ∷ rest → e.arc < length marks → after ≡ set marks e.arc true → Walked Hits (IsTownMarked marks) all left
    → Walked Hits (IsTownMarked after) all rest
town_marked Hits k e marks after all left rest step within is walked =
    let made : IsMarked after e.arc = subst (λ xs. IsMarked xs e.arc) (sym is) (mark_made marks e.arc within) in
    walk_step Hits (IsTownMarked marks) (IsTownMarked after) all left rest (k, e) step walked (λ _. made) (λ town done.
    subst (λ xs. IsMarked xs town.1.arc) (sym is) (mark_kept marks e.arc town.1.arc within done))

pub towns_marked : (m : Map) (marks : List Bool) (all left : List (ℕ × EdgeRef)) → AreTownsOf m all → left ≡ [] → MarksHeld m marks
    → MarksClashes m marks → Walked (λ town. PointIsOn m town.0 town.1) (IsTownMarked marks) all left → (arc : ℕ) → IsMarked marks arc
    ↔ IsHeld m arc
towns_marked m marks all left towns none only clashes walked arc = (
  only arc,
  held_marked m marks clashes (λ k e within edge on.
      walk_end (λ town. PointIsOn m town.0 town.1) (IsTownMarked marks) all left none walked (k, e)
      (towns.all k e within edge (box_holds m k e on)) on) arc,
)

-- ---- the list of the marked arcs

-- the rising list of the marked arcs below n
pub record AreMarkedBelow (marks : List Bool) (n : ℕ) (arcs : List ℕ) : Type 0 where
  pub rising : IsStrictlyIncreasing arcs
  pub only : (arc : ℕ) → Contains arcs arc → (arc < n) × IsMarked marks arc
  pub all : (arc : ℕ) → arc < n → IsMarked marks arc → Contains arcs arc

pub none_below : (marks : List Bool) (arcs : List ℕ) → arcs ≡ [] → AreMarkedBelow marks 0 arcs
none_below marks arcs is = rw is (record {
  rising = λ k within. absurd (omega (arith, within));
  only = λ arc member. absurd (omega (arith, member.1));
  all = λ arc below marked. absurd (omega (arith, below));
})

rising_push : (arcs : List ℕ) (n : ℕ) → IsStrictlyIncreasing arcs → All (λ arc. arc < n) arcs → IsStrictlyIncreasing (arcs ++ n ∷ [])
rising_push arcs n rising below = grind (arith, elements)

all_below : (marks : List Bool) (n : ℕ) (arcs : List ℕ) → AreMarkedBelow marks n arcs → All (λ arc. arc < n) arcs
all_below marks n arcs below k d within = (below.only (get_or arcs k d) (Contains-get_or arcs k d within)).0

pushed_only : (marks : List Bool) (n : ℕ) (arcs : List ℕ) → AreMarkedBelow marks n arcs → IsMarked marks n → (arc : ℕ)
    → (Contains arcs arc ⊎ (n ≡ arc)) → (arc < n + 1) × IsMarked marks arc
pushed_only marks n arcs below marked arc (inl member) = let known = below.only arc member in (omega (arith, known), known.1)
pushed_only marks n arcs below marked arc (inr same) = (omega (arith, same), subst (IsMarked marks) same marked)

pushed_all : (marks : List Bool) (n : ℕ) (arcs : List ℕ) → AreMarkedBelow marks n arcs → (arc : ℕ) → IsMarked marks arc
    → ((arc < n) ⊎ (n ≤ arc)) → arc < n + 1 → Contains (arcs ++ n ∷ []) arc
pushed_all marks n arcs below arc marked (inl before) within = Contains-append_left arcs (n ∷ []) arc (below.all arc before marked)
pushed_all marks n arcs below arc marked (inr past) within = let same : n ≡ arc = omega (arith, past, within) in
    subst (Contains (arcs ++ n ∷ [])) same (Contains-push arcs n)

-- the arc n is marked, and goes to the end of the list
pub marked_more : (marks : List Bool) (n : ℕ) (arcs after : List ℕ) → after ≡ arcs ++ n ∷ [] → IsMarked marks n
    → AreMarkedBelow marks n arcs → AreMarkedBelow marks (n + 1) after
marked_more marks n arcs after is marked below = rw is (record {
  rising = rising_push arcs n below.rising (all_below marks n arcs below);
  only = λ arc member. pushed_only marks n arcs below marked arc (Contains-push_cases arcs n arc member);
  all = λ arc within known. pushed_all marks n arcs below arc known (cases_lt arc n) within;
})

passed_all : (marks : List Bool) (n : ℕ) (arcs : List ℕ) → AreMarkedBelow marks n arcs → get_or marks n false ≡ false → (arc : ℕ)
    → IsMarked marks arc → ((arc < n) ⊎ (n ≤ arc)) → arc < n + 1 → Contains arcs arc
passed_all marks n arcs below unmarked arc marked (inl before) within = below.all arc before marked
passed_all marks n arcs below unmarked arc marked (inr past) within = let same : n ≡ arc = omega (arith, past, within) in
    absurd (both_ways _ unmarked (subst (IsMarked marks) (sym same) marked))

-- the arc n is not marked
pub marked_passed : (marks : List Bool) (n : ℕ) (arcs after : List ℕ) → after ≡ arcs → get_or marks n false ≡ false
    → AreMarkedBelow marks n arcs → AreMarkedBelow marks (n + 1) after
marked_passed marks n arcs after is unmarked below = rw is (record {
  rising = below.rising;
  only = λ arc member. (let known = below.only arc member in (omega (arith, known), known.1));
  all = λ arc within known. passed_all marks n arcs below unmarked arc known (cases_lt arc n) within;
})

within_by : (marks : List Bool) (arc : ℕ) → IsMarked marks arc → ((arc < length marks) ⊎ (length marks ≤ arc)) → arc < length marks
within_by marks arc marked (inl within) = within
within_by marks arc marked (inr past) = absurd (both_ways _ (get_or_past marks arc false past) marked)

-- the list of all marked arcs
pub all_marked : (marks : List Bool) (n : ℕ) (arcs : List ℕ) → length marks ≤ n → AreMarkedBelow marks n arcs → (arc : ℕ)
    → Contains arcs arc ↔ IsMarked marks arc
all_marked marks n arcs past below arc = (
  λ member. (below.only arc member).1,
  λ marked. (let within = within_by marks arc marked (cases_lt arc (length marks)) in
      below.all arc (omega (arith, within, past)) marked),
)

pub marked_list : (marks : List Bool) (n : ℕ) (arcs : List ℕ) → n ≤ 2 ^ 20 → AreMarkedBelow marks n arcs → IsArcList arcs
marked_list marks n arcs few below = record {
  rising = below.rising;
  few =
      (let short = rising-length n arcs below.rising (all_below marks n arcs below) in omega (arith, short, few));
}

-- ---- the held list

pub held_list : (m : Map) (marks : List Bool) (held : List ℕ) → IsArcList held → ((arc : ℕ) → Contains held arc ↔ IsMarked marks arc)
    → ((arc : ℕ) → IsMarked marks arc ↔ IsHeld m arc) → IsHeldList m held
held_list m marks held list listed marked = record {
  rising = list.rising;
  all = λ arc.
      (λ member. (marked arc).0 ((listed arc).0 member), λ is_held. (listed arc).1 ((marked arc).1 is_held));
}

pub arranged_beside : (m : Map) (held : List ℕ) → IsHeldList m held → IsMapArranged held m
arranged_beside m held list = record {
  clashes = λ e f first second rising clash.
      ((list.all e.arc).1 (ByFirst e f refl first second rising clash), (list.all f.arc).1 (BySecond e f refl first second rising clash));
  points = λ k e within edge on. (list.all e.arc).1 (ByPoint k e refl within edge on);
}
