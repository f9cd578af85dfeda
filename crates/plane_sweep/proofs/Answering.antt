-- What a walk over the pairs of edges, and over the edges near a feature point, tells at its end.
use Rattle.std.proofs.Common.{◌≡◌, ℕ, List, [], ◌∷◌, refl, sym, subst, get_or}
use Rattle.std.specs.Prelude.{All, Option, Some, None, IfSome, IfNone, slice_get}
use Rattle.std.proofs.lemmas.Option.{get_or_from_slice_get}
use Rattle.std.proofs.lemmas.List.Elements.{All-rest, All-weaker}
use Rattle.grid_exact.specs.Geometry.{Place}
use Rattle.grid_exact.proofs.Segments.{on_segment_by_signs}
use Rattle.arc_map.specs.Map.{Map}
use Rattle.arc_map.specs.Arranged.{HasNoClash, IsEarlier, IsMapEdge, PointIsOn, edge_end, edge_start, nowhere}
use Rattle.arc_map.specs.declared.refs.EdgeRef.{EdgeRef}
use Rattle.sweep_index.specs.Pairs.{ArePairsOf}
use Rattle.sweep_index.specs.Slabs.{AreEdgesAt, IsEdgeAt}
use Rattle.arrangement_check.specs.Least.{IsNew}
use Rattle.arrangement_check.proofs.Given.{first_of}
use Rattle.arrangement_check.proofs.LeastSoFar.{DoClash}
use Rattle.arrangement_check.proofs.Lesser.{earlier_trans, not_before_itself}
use Rattle.arrangement_check.proofs.Nearby.{boxes_meet}
use Rattle.arrangement_check.proofs.Walking.{IsNotBelow, Walked, not_below_newer, not_below_older, walk_end, walk_start, walk_step}
use Rattle.plane_sweep.specs.Answers.{IsLeastOn, IsOnNone}

pub none_clash : (m : Map) (all left : List (EdgeRef × EdgeRef)) → ArePairsOf m all → left ≡ [] → Walked (DoClash m) (λ pair. ⊥) all left
    → HasNoClash m
none_clash m all left pairs none walked e f first second rising clash =
    walk_end (DoClash m) (λ pair. ⊥) all left none walked (e, f) (pairs.all e f first second rising (boxes_meet m e f clash)) clash

-- ---- the edges at one x

pub edge_found : (m : Map) (k : ℕ) (e : EdgeRef) (least : Option EdgeRef) (all left rest : List EdgeRef) → left ≡ e ∷ rest
    → IsNew IsEarlier e least → Walked (PointIsOn m k) (IsNotBelow IsEarlier least) all left
    → Walked (PointIsOn m k) (IsNotBelow IsEarlier (Some e)) all rest
edge_found m k e least all left rest step new walked = walk_step (PointIsOn m k) (IsNotBelow IsEarlier least)
    (IsNotBelow IsEarlier (Some e)) all left rest e step walked (λ _. not_before_itself e)
    (not_below_newer IsEarlier earlier_trans e least new)

pub edge_passed : (m : Map) (k : ℕ) (e : EdgeRef) (least : Option EdgeRef) (all left rest : List EdgeRef) → left ≡ e ∷ rest
    → ¬ (IsNew IsEarlier e least × PointIsOn m k e) → Walked (PointIsOn m k) (IsNotBelow IsEarlier least) all left
    → Walked (PointIsOn m k) (IsNotBelow IsEarlier least) all rest
edge_passed m k e least all left rest step old walked = walk_step (PointIsOn m k) (IsNotBelow IsEarlier least) (IsNotBelow IsEarlier least)
    all left rest e step walked (not_below_older IsEarlier (PointIsOn m k e) e least old) (λ _ done. done)

-- the x range of an edge holds that of each point on it
at_point : (m : Map) (k : ℕ) (e : EdgeRef) → IsMapEdge m e → PointIsOn m k e → IsEdgeAt m (get_or m.points k nowhere).x e
at_point m k e edge on = record {
  edge = edge;
  across =
      ((on_segment_by_signs (edge_start m e) (edge_end m e) (get_or m.points k nowhere)).1 on).1.0;
}

pub least_on_is : (m : Map) (k : ℕ) (least : Option EdgeRef) (all left : List EdgeRef) → AreEdgesAt m (get_or m.points k nowhere).x all
    → left ≡ [] → IfSome least (λ e. IsMapEdge m e × PointIsOn m k e) → Walked (PointIsOn m k) (IsNotBelow IsEarlier least) all left
    → IfSome least (IsLeastOn m k)
least_on_is m k None all left edges none found walked = tt
least_on_is m k (Some e) all left edges none found walked = record {
  edge = found.0;
  on = found.1;
  least = λ g edge before on. walk_end (PointIsOn m k) (IsNotBelow IsEarlier (Some e)) all left none walked g
      (edges.all g (at_point m k g edge on)) on before;
}

pub on_none_is : (m : Map) (k : ℕ) (least : Option EdgeRef) (all left : List EdgeRef) → AreEdgesAt m (get_or m.points k nowhere).x all
    → left ≡ [] → Walked (PointIsOn m k) (IsNotBelow IsEarlier least) all left → IfNone least (IsOnNone m k)
on_none_is m k (Some e) all left edges none walked = tt
on_none_is m k None all left edges none walked = λ e edge on. walk_end (PointIsOn m k) (IsNotBelow IsEarlier None) all left none walked e
    (edges.all e (at_point m k e edge on)) on

-- ---- the walk over the edges at the x of a feature point

pub record WalksEdges (m : Map) (k : ℕ) (least : Option EdgeRef) (left : List EdgeRef) : Type 0 where
  pub all : List EdgeRef
  pub edges : AreEdgesAt m (get_or m.points k nowhere).x all
  pub known : All (IsMapEdge m) left
  pub found : IfSome least (λ e. IsMapEdge m e × PointIsOn m k e)
  pub walked : Walked (PointIsOn m k) (IsNotBelow IsEarlier least) all left

pub walks_first : (m : Map) (k : ℕ) (p : Place) (left : List EdgeRef) → slice_get m.points k ≡ Some p → AreEdgesAt m p.x left
    → WalksEdges m k None left
walks_first m k p left read edges = record {
  all = left;
  edges = subst (λ (q : Place). AreEdgesAt m q.x left) (sym (get_or_from_slice_get m.points k p nowhere read)) edges;
  known = All-weaker (IsEdgeAt m p.x) (IsMapEdge m) (λ e at. at.edge) left edges.only;
  found = tt;
  walked = walk_start (PointIsOn m k) (IsNotBelow IsEarlier None) left left refl;
}

pub walks_known : (m : Map) (k : ℕ) (least : Option EdgeRef) (left rest : List EdgeRef) (e : EdgeRef) → left ≡ e ∷ rest
    → WalksEdges m k least left → IsMapEdge m e
walks_known m k least left rest e step walks = first_of (IsMapEdge m) e rest left step walks.known

pub walks_found : (m : Map) (k : ℕ) (least : Option EdgeRef) (left rest : List EdgeRef) (e : EdgeRef) → left ≡ e ∷ rest
    → IsNew IsEarlier e least × PointIsOn m k e → WalksEdges m k least left → WalksEdges m k (Some e) rest
walks_found m k least left rest e step hit walks = record {
  all = walks.all;
  edges = walks.edges;
  known = All-rest (IsMapEdge m) e rest left step walks.known;
  found = (walks_known m k least left rest e step walks, hit.1);
  walked = edge_found m k e least walks.all left rest step hit.0 walks.walked;
}

pub walks_passed : (m : Map) (k : ℕ) (least : Option EdgeRef) (left rest : List EdgeRef) (e : EdgeRef) → left ≡ e ∷ rest
    → ¬ (IsNew IsEarlier e least × PointIsOn m k e) → WalksEdges m k least left → WalksEdges m k least rest
walks_passed m k least left rest e step miss walks = record {
  all = walks.all;
  edges = walks.edges;
  known = All-rest (IsMapEdge m) e rest left step walks.known;
  found = walks.found;
  walked = edge_passed m k e least walks.all left rest step miss walks.walked;
}
