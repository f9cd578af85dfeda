-- The trail over the next vertices is the best path.
use Rattle.std.proofs.Common.{◌≡◌, ◌∙◌, ◌+◌, ℕ, take, ap, sym, subst}
use Rattle.grid_exact.specs.Paths.{AreLayers}
use Rattle.layer_paths.specs.Lay.{Lay, IsLayered, IsTrail}
use Rattle.layer_paths.proofs.Best.{best_trail}
use Rattle.layer_paths.proofs.Layers.{all_layers}
use Rattle.chain_replace.specs.Run.{IsAllowedIn, last_of}
use Rattle.chain_replace.proofs.finder.PathFinder.find.Goals as goal

pub returns-clause-path : goal.returns-clause-path
returns-clause-path c =
    let w = c.args.map.now in
    let pairs = IsAllowedIn c.args.terms.now w c.args.k in
    let lay = c.write_path.new.self.lay in
    let known = subst (λ (l : Lay). IsLayered pairs (last_of w c.args.k) l) (sym c.write_path.ensures.lay) c.lay.ensures.layers in
    best_trail pairs (last_of w c.args.k) lay c.write_path.new.self.path (ap (λ (l : Lay). l.front) c.write_path.ensures.lay
    ∙ c.lay.ensures.whole) known (subst (λ (m : ℕ). IsTrail lay.nexts m c.write_path.new.self.path) known.last
    c.write_path.ensures.trail)

pub returns-clause-layers : goal.returns-clause-layers
returns-clause-layers c =
    let w = c.args.map.now in
    let pairs = IsAllowedIn c.args.terms.now w c.args.k in
    let lay = c.write_path.new.self.lay in
    let known = subst (λ (l : Lay). IsLayered pairs (last_of w c.args.k) l) (sym c.write_path.ensures.lay) c.lay.ensures.layers in
    subst (λ (m : ℕ). AreLayers pairs (last_of w c.args.k) (take (m + 1) lay.layers)) (sym known.last)
    (all_layers pairs (last_of w c.args.k) lay (ap (λ (l : Lay). l.front) c.write_path.ensures.lay ∙ c.lay.ensures.whole) known)
