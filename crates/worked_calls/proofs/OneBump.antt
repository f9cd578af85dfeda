-- A map of one arc over three points that rises to the right, and the chains of an arranged map.
use Rattle.std.proofs.Common.{◌≡◌, inr, ℕ, zero, suc, ◌<◌, ◌<ℤ◌, true, false, List, [], ◌∷◌, length, get_or, map, sym, subst, arith}
use Rattle.std.specs.Prelude.{Contains}
use Rattle.grid_exact.specs.Geometry.{Place, IsOnSegment}
use Rattle.grid_exact.specs.Geometry.IsBefore.{Left}
use Rattle.grid_exact.specs.Runs.IsMonotone.{Increasing}
use Rattle.grid_exact.specs.declared.frame.Frame.TheVariants.{Plain}
use Rattle.arc_map.specs.Map.{Map}
use Rattle.arc_map.specs.Edges.{EdgesAreArranged}
use Rattle.arc_map.specs.Arcs.{vertex, edges_of_arcs, IsMapArrangedBeside}
use Rattle.arc_map.specs.Chains.{IsClearIn}
use Rattle.arc_map.specs.Work.{Work, chain_in, work_of, AreChainsIn}
use Rattle.arc_map.specs.declared.refs.ChainRef.{ChainRef}
use Rattle.monotone_split.proofs.Paths.{own_lawful}
use Rattle.monotone_split.proofs.Cuts.{chains_cut_map}

-- ---- the chains of a map

pub clear_of : (m : Map) (refs : List ChainRef) (w : Work) (k : ℕ) → AreChainsIn m refs → w ≡ work_of m refs → IsMapArrangedBeside [] m
    → IsClearIn w.chains w.read.points k
clear_of m refs w k are is arranged =
    subst (λ (v : Work). IsClearIn v.chains v.read.points k) (sym is)
    (((chains_cut_map m (map (chain_in m) refs) are.cut).arranged []).0 arranged k (λ has. let none = has.1 in
    absurd (omega (arith, none))))

-- ---- one arc over three points

only_point : (town p : Place) → Contains (town ∷ []) p → town ≡ p
only_point town p has = at_number has.0 has.1 has.2
  where
    at_number : (k : ℕ) → k < length (town ∷ []) → get_or (town ∷ []) k p ≡ p → town ≡ p
    at_number zero within is = is
    at_number (suc k) within is = absurd (omega arith)

one_arc_arranged : (a b c town : Place) → a.x <ℤ b.x → b.x <ℤ c.x → ¬ (IsOnSegment a b town) → ¬ (IsOnSegment b c town)
    → EdgesAreArranged [] (edges_of_arcs 0 ((a ∷ b ∷ c ∷ []) ∷ [])) (town ∷ [])
one_arc_arranged a b c town ab bc off_first off_second =
    let own = own_lawful Plain (vertex 0 0 true a) (vertex 0 1 false b ∷ vertex 0 2 true c ∷ []) (Increasing (Left ab, (Left bc, tt))) in
    record {
      pairs = ((inr own.0.0, tt), (tt, tt));
      off = λ p has.
          let here = only_point town p has in (
            (λ on. absurd (off_first (subst (IsOnSegment a b) (sym here) on))),
            ((λ on. absurd (off_second (subst (IsOnSegment b c) (sym here) on))), tt),
          );
    }

pub arranged_of : (m : Map) (a b c town : Place) → m.arcs ≡ (a ∷ b ∷ c ∷ []) ∷ [] → m.points ≡ town ∷ [] → a.x <ℤ b.x → b.x <ℤ c.x
    → ¬ (IsOnSegment a b town) → ¬ (IsOnSegment b c town) → IsMapArrangedBeside [] m
arranged_of m a b c town arcs points ab bc off_first off_second =
    subst (λ (pss : List (List Place)). EdgesAreArranged [] (edges_of_arcs 0 pss) m.points) (sym arcs)
    (subst (λ (ps : List Place). EdgesAreArranged [] (edges_of_arcs 0 ((a ∷ b ∷ c ∷ []) ∷ [])) ps) (sym points)
    (one_arc_arranged a b c town ab bc off_first off_second))
