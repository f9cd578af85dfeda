-- What thinning leaves.
use Rattle.std.proofs.Common.{◌≡◌, ℕ, List}
use Rattle.std.specs.Prelude.{◌≢◌}
use Rattle.std.proofs.lemmas.List.{get_or-set_other}
use Rattle.arc_map.specs.Chains.{Chain, chain_at, no_chain, thinned}
use Rattle.arc_map.specs.Vertices.{Vertex}
