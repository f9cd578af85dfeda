-- The least clashing pair, and the least feature point on an edge, as far as a walk has come and at its end.
use Rattle.std.proofs.Common.{◌≡◌, inl, inr, ℕ, List, [], ◌∷◌, arith, refl}
use Rattle.std.specs.Prelude.{Option, Some, None, IfSome, IfNone}
use Rattle.arc_map.specs.Map.{Map}
use Rattle.arc_map.specs.Arranged.{EdgesClash, HasNoClash, IsArranged, IsLeastClash, IsLeastPoint, PointIsOn}
use Rattle.arc_map.specs.declared.refs.EdgeRef.{EdgeRef}
use Rattle.sweep_index.specs.Pairs.{ArePairsOf, AreTownsOf, IsPairOf, IsTownOf}
use Rattle.arrangement_check.specs.Least.{HasNoTown, IsLessPair, IsLessTown, IsNew}
use Rattle.arrangement_check.proofs.Lesser.{earlier_says, pair_not_less, pair_trans, town_not_less, town_trans}
use Rattle.arrangement_check.proofs.Nearby.{box_holds, boxes_meet}
use Rattle.arrangement_check.proofs.Walking.{IsNotBelow, Walked, not_below_newer, not_below_older, walk_end, walk_step}

-- ---- pairs of edges

abbrev pub DoClash : Map → EdgeRef × EdgeRef → Type 0
DoClash m pair = EdgesClash m pair.0 pair.1

pub pair_found : (m : Map) (pair : EdgeRef × EdgeRef) (least : Option (EdgeRef × EdgeRef)) (all left rest : List (EdgeRef × EdgeRef))
    → left ≡ pair ∷ rest → IsNew IsLessPair pair least → Walked (DoClash m) (IsNotBelow IsLessPair least) all left
    → Walked (DoClash m) (IsNotBelow IsLessPair (Some pair)) all rest
pair_found m pair least all left rest step new walked = walk_step (DoClash m) (IsNotBelow IsLessPair least)
    (IsNotBelow IsLessPair (Some pair)) all left rest pair step walked (λ _. pair_not_less pair)
    (not_below_newer IsLessPair pair_trans pair least new)

pub pair_passed : (m : Map) (pair : EdgeRef × EdgeRef) (least : Option (EdgeRef × EdgeRef)) (all left rest : List (EdgeRef × EdgeRef))
    → left ≡ pair ∷ rest → ¬ (IsNew IsLessPair pair least × DoClash m pair) → Walked (DoClash m) (IsNotBelow IsLessPair least) all left
    → Walked (DoClash m) (IsNotBelow IsLessPair least) all rest
pair_passed m pair least all left rest step old walked = walk_step (DoClash m) (IsNotBelow IsLessPair least) (IsNotBelow IsLessPair least)
    all left rest pair step walked (not_below_older IsLessPair (DoClash m pair) pair least old) (λ _ done. done)

-- of the pairs of the map that clash, none is less than the least one that was found
pub least_clash_is : (m : Map) (least : Option (EdgeRef × EdgeRef)) (all left : List (EdgeRef × EdgeRef)) → ArePairsOf m all → left ≡ []
    → IfSome least (λ pair. IsPairOf m pair × EdgesClash m pair.0 pair.1) → Walked (DoClash m) (IsNotBelow IsLessPair least) all left
    → IfSome least (λ pair. IsLeastClash m pair.0 pair.1)
least_clash_is m None all left pairs none found walked = tt
least_clash_is m (Some pair) all left pairs none found walked = record {
  first_edge = found.0.first;
  second_edge = found.0.second;
  ordered = earlier_says pair.0 pair.1 found.0.rising;
  clash = found.1;
  none_before = λ g h first second rising before clash. walk_end (DoClash m) (IsNotBelow IsLessPair (Some pair)) all left none walked (g, h)
      (pairs.all g h first second rising (boxes_meet m g h clash)) clash (inl before);
  none_between = λ h second rising before clash. walk_end (DoClash m) (IsNotBelow IsLessPair (Some pair)) all left none walked (pair.0, h)
      (pairs.all pair.0 h found.0.first second rising (boxes_meet m pair.0 h clash)) clash (inr (refl, before));
}

pub no_clash_is : (m : Map) (least : Option (EdgeRef × EdgeRef)) (all left : List (EdgeRef × EdgeRef)) → ArePairsOf m all → left ≡ []
    → Walked (DoClash m) (IsNotBelow IsLessPair least) all left → IfNone least (HasNoClash m)
no_clash_is m (Some pair) all left pairs none walked = tt
no_clash_is m None all left pairs none walked = λ e f first second rising clash.
    walk_end (DoClash m) (IsNotBelow IsLessPair None) all left none walked (e, f)
    (pairs.all e f first second rising (boxes_meet m e f clash)) clash

-- ---- feature points with edges

abbrev pub LiesOn : Map → ℕ × EdgeRef → Type 0
LiesOn m town = PointIsOn m town.0 town.1

pub town_found : (m : Map) (town : ℕ × EdgeRef) (least : Option (ℕ × EdgeRef)) (all left rest : List (ℕ × EdgeRef)) → left ≡ town ∷ rest
    → IsNew IsLessTown town least → Walked (LiesOn m) (IsNotBelow IsLessTown least) all left
    → Walked (LiesOn m) (IsNotBelow IsLessTown (Some town)) all rest
town_found m town least all left rest step new walked = walk_step (LiesOn m) (IsNotBelow IsLessTown least)
    (IsNotBelow IsLessTown (Some town)) all left rest town step walked (λ _. town_not_less town)
    (not_below_newer IsLessTown town_trans town least new)

pub town_passed : (m : Map) (town : ℕ × EdgeRef) (least : Option (ℕ × EdgeRef)) (all left rest : List (ℕ × EdgeRef)) → left ≡ town ∷ rest
    → ¬ (IsNew IsLessTown town least × LiesOn m town) → Walked (LiesOn m) (IsNotBelow IsLessTown least) all left
    → Walked (LiesOn m) (IsNotBelow IsLessTown least) all rest
town_passed m town least all left rest step old walked = walk_step (LiesOn m) (IsNotBelow IsLessTown least) (IsNotBelow IsLessTown least)
    all left rest town step walked (not_below_older IsLessTown (LiesOn m town) town least old) (λ _ done. done)

-- of the feature points of the map with edges on which they lie, none is less than the least one that was found
pub least_point_is : (m : Map) (least : Option (ℕ × EdgeRef)) (all left : List (ℕ × EdgeRef)) → HasNoClash m → AreTownsOf m all → left ≡ []
    → IfSome least (λ town. IsTownOf m town × PointIsOn m town.0 town.1) → Walked (LiesOn m) (IsNotBelow IsLessTown least) all left
    → IfSome least (λ town. IsLeastPoint m town.0 town.1)
least_point_is m None all left no_clash towns none found walked = tt
least_point_is m (Some town) all left no_clash towns none found walked = record {
  no_clash = no_clash;
  point = found.0.point;
  edge = found.0.edge;
  on = found.1;
  no_point_before = λ l g before edge on. walk_end (LiesOn m) (IsNotBelow IsLessTown (Some town)) all left none walked (l, g)
      (towns.all l g (omega (arith, before, found.0.point)) edge (box_holds m l g on)) on (inl before);
  no_edge_before = λ g edge before on. walk_end (LiesOn m) (IsNotBelow IsLessTown (Some town)) all left none walked (town.0, g)
      (towns.all town.0 g found.0.point edge (box_holds m town.0 g on)) on (inr (refl, before));
}

pub no_point_is : (m : Map) (least : Option (ℕ × EdgeRef)) (all left : List (ℕ × EdgeRef)) → AreTownsOf m all → left ≡ []
    → Walked (LiesOn m) (IsNotBelow IsLessTown least) all left → IfNone least (HasNoTown m)
no_point_is m (Some town) all left towns none walked = tt
no_point_is m None all left towns none walked = λ k e within edge on.
    walk_end (LiesOn m) (IsNotBelow IsLessTown None) all left none walked (k, e) (towns.all k e within edge (box_holds m k e on)) on

-- ---- the whole map

pub arranged_is : (m : Map) → HasNoClash m → HasNoTown m → IsArranged m
arranged_is m no_clash no_town = record {
  clashes = λ e f first second rising clash. absurd (no_clash e f first second rising clash);
  points = λ k e within edge on. absurd (no_town k e within edge on);
}
