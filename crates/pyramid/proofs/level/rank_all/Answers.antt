-- At the end the last level is reached.
use Rattle.std.proofs.Common.{◌≡◌, ℕ, List, length, sym, subst, arith}
use Rattle.pyramid.specs.Levels.{AreRanks}
use Rattle.pyramid.specs.LevelMemory.{IsComeTo, level_in}
use Rattle.pyramid.specs.Places.{lists_of}
use Rattle.pyramid.proofs.AtEnd.{at-end}
use Rattle.pyramid.proofs.level.rank_all.Goals as goal

pub returns : goal.returns
returns c =
    let m = c.args.arranged in
    let bounds = c.args.bounds.now in
    let end : c.loop-k.k ≡ length bounds = omega arith in
    let come = subst (λ (n : ℕ). IsComeTo m bounds n c.loop-k.level) end c.loop-k.invariant in
    subst (λ (ranks : List (List ℕ)). AreRanks m bounds ranks) (sym c.new.ensures)
    (at-end m bounds (lists_of c.loop-k.level.ranks.items) (level_in c.loop-k.level) come.up_to)
