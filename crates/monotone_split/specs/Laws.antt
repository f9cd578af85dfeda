-- The laws of one replacement, over all maps.
use Rattle.std.specs.Prelude.{◌≡◌, ◌≢◌, ◌↔◌, ◌<◌, ℕ, ℤ, IsTrue, List, [], ◌∷◌, length, get_or, Contains}
use Rattle.grid_exact.specs.Geometry.{Place}
use Rattle.grid_exact.specs.Clash.{Clash, Flags}
use Rattle.grid_exact.specs.Paths.{LeadsTo}
use Rattle.grid_exact.specs.Runs.{IsEdgeOf}
use Rattle.arc_map.specs.Map.{Map}
use Rattle.arc_map.specs.Arcs.{IsMapArrangedBeside, AreChainsOf, AreKept, map_now, is_list_crossed_oddly, is_inside}
use Rattle.arc_map.specs.Arranged.{IsMapArranged}
use Rattle.arc_map.specs.Paths.{IsAllowedPair, vertices_at, Step, AreSteps}
use Rattle.arc_map.specs.Edges.{is_arc_crossed_oddly, edges_of_all, EdgesAreArranged}
use Rattle.arc_map.specs.Vertices.{Vertex, MeetLawfully}
use Rattle.arc_map.specs.Chains.{Chain, chain_at, AreChains, IsClearIn, IsArrangedBeside, IsWithinBound, IsPathIn, thinned}
use Rattle.arc_map.specs.Chains.{is_crossed_oddly}

-- what stays where the chain number k of a map is thinned to the kept vertices
pub record KeepsMap (chains : List Chain) (points : List Place) (k : ℕ) (kept : List Vertex) : Type 0 where
  -- the chains are chains as before
  pub chains_stay : AreChains (thinned chains k kept)
  -- the new chain is clear
  pub clear : IsClearIn (thinned chains k kept) points k
  -- each other chain that was clear is clear
  pub others_clear : (l : ℕ) → l ≢ k → IsClearIn chains points l → IsClearIn (thinned chains k kept) points l
  -- a map arranged beside held arcs is arranged beside them
  pub arranged : (held : List ℕ) → IsArrangedBeside held chains points → IsArrangedBeside held (thinned chains k kept) points
  -- from each feature point the chain is crossed with the same parity
  pub parity : (p : Place) → Contains points p → is_crossed_oddly p (chain_at (thinned chains k kept) k)
      ≡ is_crossed_oddly p (chain_at chains k)
  -- and so is each arc
  pub arc_parity : (p : Place) (arc : ℕ) → Contains points p → is_arc_crossed_oddly p arc (thinned chains k kept)
      ≡ is_arc_crossed_oddly p arc chains

-- A clear chain that is replaced by a path of allowed pairs: the new chain is clear, and the rest stays.
abbrev pub ReplacementKeepsMap : Type 0
ReplacementKeepsMap = (wx wy bound : ℤ) (chains : List Chain) (points : List Place) (k : ℕ) (kept : List Vertex) → k < length chains
    → AreChains chains → IsClearIn chains points k → IsPathIn (IsWithinBound wx wy bound) chains points k kept
    → KeepsMap chains points k kept

-- The same for a path of allowed pairs by the numbers of the vertices, from 0 to the last.
abbrev pub PathByNumbersKeepsMap : Type 0
PathByNumbersKeepsMap = (wx wy bound : ℤ) (chains : List Chain) (points : List Place) (k : ℕ) (numbers : List ℕ) → k < length chains
    → AreChains chains → IsClearIn chains points k
    → LeadsTo (IsAllowedPair (IsWithinBound wx wy bound) chains points k) (length (chain_at chains k).rest) 0 numbers
    → KeepsMap chains points k (vertices_at (chain_at chains k) numbers)

-- A map is arranged beside held arcs by the names of its edges exactly where it is by the list of its edges.
abbrev pub ArrangedByNames : Type 0
ArrangedByNames = (held : List ℕ) (m : Map) → IsMapArranged held m ↔ IsMapArrangedBeside held m

-- The edges of a map's chains are arranged exactly where each chain of an arc that is not held is clear.
abbrev pub ArrangedByChains : Type 0
ArrangedByChains = (held : List ℕ) (chains : List Chain) (points : List Place) → AreChains chains
    → EdgesAreArranged held (edges_of_all chains) points ↔ IsArrangedBeside held chains points

-- The chains into which the arcs of a map are cut are chains, and the map is arranged beside held arcs
-- exactly where its chains are.
pub record CutsMap (m : Map) (chains : List Chain) : Type 0 where
  pub are_chains : AreChains chains
  pub arranged : (held : List ℕ) → IsMapArrangedBeside held m ↔ IsArrangedBeside held chains m.points

abbrev pub ChainsCutMap : Type 0
ChainsCutMap = (m : Map) (chains : List Chain) → AreChainsOf 0 m.arcs chains → CutsMap m chains

-- the flags are those of the vertices of two different edges ab and cd
pub record FlagsFit (a b c d : Vertex) (flags : Flags) : Type 0 where
  pub a_end : flags.a_end ≡ a.is_end
  pub b_end : flags.b_end ≡ b.is_end
  pub c_end : flags.c_end ≡ c.is_end
  pub d_end : flags.d_end ≡ d.is_end
  pub joined : IsTrue flags.joined ↔ (b ≡ c)
  pub joined_back : IsTrue flags.joined_back ↔ (a ≡ d)
  pub other_starts : ¬ (a ≡ c)
  pub other_ends : ¬ (b ≡ d)

-- Two edges do not clash by their flags exactly where each of their common points is a lawful junction.
abbrev pub ClashesAreUnlawful : Type 0
ClashesAreUnlawful = (a b c d : Vertex) (flags : Flags) → FlagsFit a b c d flags → (¬ (Clash a.place b.place c.place d.place flags))
    ↔ MeetLawfully a b c d

-- x is an end of an edge of the walk from v along ws
pub data EndOfEdge (v : Vertex) (ws : List Vertex) (x : Vertex) : Type 0 where
  StartsAt : (b : Vertex) → IsEdgeOf v ws x b → EndOfEdge v ws x
  EndsAt : (a : Vertex) → IsEdgeOf v ws a x → EndOfEdge v ws x

-- An edge of another chain with both ends at vertices of a clear chain is all of its chain.
abbrev pub DoubleEdgeIsChain : Type 0
DoubleEdgeIsChain = (chains : List Chain) (points : List Place) (k l : ℕ) (c d x y : Vertex) → AreChains chains → IsClearIn chains points k
    → l ≢ k → IsEdgeOf (chain_at chains l).first (chain_at chains l).rest c d
    → EndOfEdge (chain_at chains k).first (chain_at chains k).rest x → EndOfEdge (chain_at chains k).first (chain_at chains k).rest y
    → x.place ≡ c.place → y.place ≡ d.place → (chain_at chains l).rest ≡ d ∷ []

-- The chains of a map, thinned, make up a map: it is arranged beside held arcs where the chains are.
abbrev pub JoinedArcsAreArranged : Type 0
JoinedArcsAreArranged = (m : Map) (before chains : List Chain) → AreChainsOf 0 m.arcs before → AreKept before chains → AreChains chains
    → (held : List ℕ) → IsArrangedBeside held chains m.points → IsMapArrangedBeside held (map_now m chains)

-- The chains of a map are kept from themselves, and stay kept from the chains before where one is
-- replaced by a path.
abbrev pub ThinnedAreKept : Type 0
ThinnedAreKept = ((chains : List Chain) → AreKept chains chains)
    × ((wx wy bound : ℤ) (before chains : List Chain) (points : List Place) (k : ℕ) (kept : List Vertex) → AreKept before chains
    → IsPathIn (IsWithinBound wx wy bound) chains points k kept → AreKept before (thinned chains k kept))

-- From each place an arc that thinned chains make up is crossed with the parity of these chains.
abbrev pub ParityOfArcs : Type 0
ParityOfArcs = (m : Map) (before chains : List Chain) → AreChainsOf 0 m.arcs before → AreKept before chains → (p : Place) (arc : ℕ)
    → is_list_crossed_oddly p (get_or (map_now m chains).arcs arc []) ≡ is_arc_crossed_oddly p arc chains

-- what the arcs of a map and those after some replacements have in common
pub record OutcomeOf (held : List ℕ) (m : Map) (after : List Chain) : Type 0 where
  -- the map that the chains make up is arranged beside the held arcs
  pub arranged : IsMapArrangedBeside held (map_now m after)
  -- from each feature point each arc is crossed with the same parity
  pub parity : (p : Place) (arc : ℕ) → Contains m.points p → is_list_crossed_oddly p (get_or (map_now m after).arcs arc [])
      ≡ is_list_crossed_oddly p (get_or m.arcs arc [])
  -- and is in the same polygons
  pub inside : (p : Place) (polygon : ℕ) → Contains m.points p → is_inside p (map_now m after) polygon ≡ is_inside p m polygon

-- A map arranged beside held arcs whose chains of other arcs are replaced, one after the other, by paths of pairs that are
-- allowed in the map as found.
abbrev pub StepsKeepMap : Type 0
StepsKeepMap = (wx wy bound : ℤ) (held : List ℕ) (m : Map) (chains : List Chain) (steps : List Step) (after : List Chain)
    → AreChainsOf 0 m.arcs chains → IsMapArrangedBeside held m → AreSteps (IsWithinBound wx wy bound) held m.points chains steps after
    → OutcomeOf held m after
