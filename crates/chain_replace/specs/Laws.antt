-- The laws of runs, over all maps, held arcs, bounds and weights.
use Rattle.std.specs.Prelude.{◌≡◌, ◌-◌, ℕ, List, [], length, get_or, Contains}
use Rattle.grid_exact.specs.Geometry.{Place}
use Rattle.grid_exact.specs.Paths.{Certifies}
use Rattle.arc_map.specs.Map.{Map}
use Rattle.arc_map.specs.Arcs.{is_list_crossed_oddly, is_inside}
use Rattle.arc_map.specs.Arranged.{IsMapArranged}
use Rattle.arc_map.specs.Records.{Record}
use Rattle.arc_map.specs.Work.{Work}
use Rattle.chain_replace.specs.Run.{Terms, IsAllowedIn, last_of, IsRecordOf, IsOutcome}
use Rattle.chain_replace.specs.Thinned.{ThinsArcs}

-- A run has one outcome, with one list of records.
abbrev pub OutcomeIsOne : Type 0
OutcomeIsOne = (m : Map) (t : Terms) (after other : Map) (records others : List Record) → IsOutcome m t after records
    → IsOutcome m t other others → (after ≡ other) × (records ≡ others)

-- The layers in the record of a chain certify that no path of the chain has fewer vertices than the one that is kept.
abbrev pub LayersCertifyPath : Type 0
LayersCertifyPath = (t : Terms) (w : Work) (k : ℕ) (r : Record) → IsRecordOf t w k r
    → Certifies (IsAllowedIn t w k) (last_of w k) (length r.kept - 1) r.layers

-- what a map and the outcome of a run over it have in common
pub record KeepsFaces (held : List ℕ) (m after : Map) : Type 0 where
  -- the outcome is arranged beside the held arcs
  pub arranged : IsMapArranged held after
  -- from each feature point each arc is crossed with the same parity
  pub parity : (p : Place) (arc : ℕ) → Contains m.points p → is_list_crossed_oddly p (get_or after.arcs arc [])
      ≡ is_list_crossed_oddly p (get_or m.arcs arc [])
  -- and is in the same polygons
  pub inside : (p : Place) (polygon : ℕ) → Contains m.points p → is_inside p after polygon ≡ is_inside p m polygon

-- The outcome of a run over a map that is arranged beside the held arcs is arranged beside them, and its faces stay.
abbrev pub OutcomeKeepsFaces : Type 0
OutcomeKeepsFaces = (m : Map) (t : Terms) (after : Map) (records : List Record) → IsMapArranged t.held m → IsOutcome m t after records
    → KeepsFaces t.held m after

-- The outcome of a run thins the arcs of the map: of each arc some places are left, the first and the last and both ends of each of
-- its chains among them, and each place that is skipped is near the edge that skips it; a held arc is unchanged.
abbrev pub OutcomeThinsArcs : Type 0
OutcomeThinsArcs = (m : Map) (t : Terms) (after : Map) (records : List Record) → (is : IsOutcome m t after records)
    → ThinsArcs t m is.refs after
