-- The chains of an arranged map.
use Rattle.std.proofs.Common.{ℕ, List, [], map, arith}
use Rattle.arc_map.specs.Map.{Map}
use Rattle.arc_map.specs.Arranged.{IsArranged}
use Rattle.arc_map.specs.Chains.{IsClearIn}
use Rattle.arc_map.specs.Work.{AreChainsIn, chain_in}
use Rattle.arc_map.specs.declared.refs.ChainRef.{ChainRef}
use Rattle.monotone_split.proofs.Cuts.{chains_cut_map}
use Rattle.monotone_split.proofs.Named.{arranged_by_names}

pub is_clear : (m : Map) (refs : List ChainRef) (k : ℕ) → AreChainsIn m refs → IsArranged m → IsClearIn (map (chain_in m) refs) m.points k
is_clear m refs k are arranged = ((chains_cut_map m (map (chain_in m) refs) are.cut).arranged []).0 ((arranged_by_names [] m).0 arranged) k
    (λ held. absurd (omega (arith, held.1)))
