-- Positions, and the rings that they make.
use Rattle.std.specs.Prelude.{ℕ, ◌+◌, ◌^◌, Bool, true, nat_lt, List, [], ◌∷◌, ◌++◌, length, sum_by, Result, Ok, Err, if◌then◌else◌}
use Rattle.grid_exact.specs.Geometry.{Place}
use Rattle.json_scan.specs.Tree.{Tree, Trees, NoTrees, NextTree}
use Rattle.topo_reader.specs.declared.fault.ReadFault.{ReadFault}
use Rattle.topo_reader.specs.declared.fault.ReadFault.TheVariants as read
use Rattle.topo_reader.specs.declared.fault.What.TheVariants as what
use Rattle.topo_reader.specs.Sequence.{and_then, each}
use Rattle.topo_reader.specs.Positions.{position_of, origin}
use Rattle.topo_reader.specs.Arcs.{last_of, is_at}
use Rattle.geo_reader.specs.declared.fault.GeoFault.{GeoFault}
use Rattle.geo_reader.specs.declared.fault.GeoFault.TheVariants as geo
use Rattle.geo_reader.specs.declared.fault.GeoKind.TheVariants as shape
use Rattle.geo_reader.specs.Steps.{wrong, counted, list_of}

-- ---- positions

-- a fault of a position of a topology; its only fault of shape is a value of another type
abbrev pub position_fault : ReadFault → GeoFault
position_fault (read.Shape kind at) = geo.Shape shape.WrongType at
position_fault (read.Off kind at) = geo.Off kind at
position_fault (read.TooMany what at) = geo.TooMany what at
position_fault read.NoMemory = geo.NoMemory

abbrev pub with_fault : Result Place ReadFault → Result Place GeoFault
with_fault (Ok p) = Ok p
with_fault (Err fault) = Err (position_fault fault)

-- a position: two whole numbers on the grid, which are no differences
abbrev pub position_at : Tree → Result Place GeoFault
position_at t = with_fault (position_of origin t)

-- ---- rings

-- a ring so far and one position more, behind so many of other rings
abbrev pub position_added : ℕ → Tree → List Place → Result (List Place) GeoFault
position_added before t ring =
    counted what.Positions (2 ^ 19) (before + length ring) t (
    and_then (position_at t) (λ p.
    Ok (ring ++ p ∷ [])))

abbrev pub positions_added : ℕ → Trees → List Place → Result (List Place) GeoFault
positions_added before = each (position_added before)

abbrev pub count : Trees → ℕ
count NoTrees = 0
count (NextTree t others) = 1 + count others

-- fewer values than a ring has positions
abbrev pub is_short : Trees → Bool
is_short trees = nat_lt (count trees) 4

-- the last position is the first
abbrev pub is_closed : List Place → Bool
is_closed [] = true
is_closed (p ∷ ps) = is_at (last_of (p ∷ ps)) p

abbrev pub closed : Tree → List Place → Result (List Place) GeoFault
closed t ring = if is_closed ring then Ok ring else wrong shape.OpenRing t

abbrev pub ring_from : ℕ → Tree → Trees → Result (List Place) GeoFault
ring_from before t trees = if is_short trees then wrong shape.ShortRing t else and_then (positions_added before trees []) (closed t)

-- a ring, behind so many positions of other rings: it is short before its positions, and open after them
abbrev pub ring_of : ℕ → Tree → Result (List Place) GeoFault
ring_of before t = and_then (list_of t) (ring_from before t)

-- the rings so far, and one more
abbrev pub ring_added : Tree → List (List Place) → Result (List (List Place)) GeoFault
ring_added t rings = and_then (ring_of (sum_by length rings) t) (λ ring. Ok (rings ++ ring ∷ []))

-- the rings so far, and those of a polygon
abbrev pub polygon_added : Tree → List (List Place) → Result (List (List Place)) GeoFault
polygon_added t rings = and_then (list_of t) (λ trees. each ring_added trees rings)

-- the rings so far, and those of several polygons
abbrev pub polygons_added : Tree → List (List Place) → Result (List (List Place)) GeoFault
polygons_added t rings = and_then (list_of t) (λ trees. each polygon_added trees rings)

-- the rings so far, and those of a polygon that may have several parts
abbrev pub parts_added : Bool → Tree → List (List Place) → Result (List (List Place)) GeoFault
parts_added several = if several then polygons_added else polygon_added
