-- The state of a judge.
use Rattle.std.specs.Prelude.{◌≡◌, ℕ, List, Option, None, Some}
use Rattle.arc_map.specs.Chains.{AreChains, IsArrangedBeside}
use Rattle.arc_map.specs.Work.{Work, AreChainsIn, work_of}
use Rattle.arrangement_check.specs.Partly.{Holding}
use Rattle.cert_checker.specs.declared.verdicts.Verdict.{Verdict}

-- the map at work, its held arcs, and the verdict where there is one
pub record Judging : Type 0 where
  pub work : Work
  pub held : List ℕ
  pub verdict : Option Verdict

-- the chains are chains of the map read, and it is arranged beside the held arcs
pub record IsKnown (held : List ℕ) (w : Work) : Type 0 where
  pub lie : AreChainsIn w.read w.refs
  pub chains : AreChains w.chains
  pub arranged : IsArrangedBeside held w.chains w.read.points

-- no chain is thinned yet, and no verdict is given
pub record IsFresh (s : Judging) : Type 0 where
  pub as_read : s.work ≡ work_of s.work.read s.work.refs
  pub no_verdict : s.verdict ≡ None

-- the state is a fresh one for this map and these held arcs
pub record IsFreshFor (p : Holding) (s : Judging) : Type 0 where
  pub map_read : s.work.read ≡ p.map
  pub chains : AreChainsIn p.map s.work.refs
  pub held_arcs : s.held ≡ p.held
  pub fresh : IsFresh s

-- the same map with the same held arcs, after this verdict
pub record IsAfter (verdict : Verdict) (before after : Judging) : Type 0 where
  pub map_read : after.work.read ≡ before.work.read
  pub refs : after.work.refs ≡ before.work.refs
  pub held_arcs : after.held ≡ before.held
  pub given : after.verdict ≡ Some verdict

-- the map read, the held arcs and the verdict stay, and only the chains may change
pub record KeepsBase (before after : Judging) : Type 0 where
  pub map_read : after.work.read ≡ before.work.read
  pub refs : after.work.refs ≡ before.work.refs
  pub held_arcs : after.held ≡ before.held
  pub verdict_same : after.verdict ≡ before.verdict
