-- The number of a chain's last place, and chains of one edge.
use Rattle.std.proofs.Common.{◌≡◌, ℕ, ◌-◌, List, length, ap, subst, arith, refl}
use Rattle.std.proofs.lemmas.List.{length-map}
use Rattle.grid_exact.specs.Geometry.{Place}
use Rattle.arc_map.specs.Allowed.IsAllowed.{Neighbours}
use Rattle.arc_map.specs.Chains.{chain_at, chain_places}
use Rattle.arc_map.specs.Vertices.{Vertex}
use Rattle.arc_map.specs.Work.{Work}
use Rattle.layer_paths.specs.Lay.{Lay, IsLayered, IsSingle}
use Rattle.layer_paths.proofs.Layers.{single_layered}
use Rattle.chain_replace.specs.Run.{Terms, IsAllowedIn, last_of}

pub last_place : (w : Work) (k : ℕ) (places : List Place) → places ≡ chain_places (chain_at w.chains k) → length places - 1 ≡ last_of w k
last_place w k places same =
    omega (arith, ap length same, length-map (chain_at w.chains k).rest (λ (v : Vertex). v.place))

one_edge : (t : Terms) (w : Work) (k : ℕ) → IsAllowedIn t w k 0 1
one_edge t w k = Neighbours refl

pub edge_laid : (t : Terms) (w : Work) (k : ℕ) (places : List Place) (l : Lay) → places ≡ chain_places (chain_at w.chains k)
    → length places ≡ 2 → IsSingle l → IsLayered (IsAllowedIn t w k) (last_of w k) l
edge_laid t w k places l same two is =
    let last : 1 ≡ last_of w k = omega (arith, last_place w k places same) in
    subst (λ (m : ℕ). IsLayered (IsAllowedIn t w k) m l) last (single_layered (IsAllowedIn t w k) l (one_edge t w k) is)
