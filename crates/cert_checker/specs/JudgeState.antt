-- What holds of each judge's memory.
use Rattle.std.specs.Prelude.{◌≤◌, vec_capacity}
use Rattle.cert_checker.specs.Judging.{IsKnown}
use Rattle.cert_checker.specs.declared.state.JudgeState.TheInside.{Inside}

-- the map is known to be right, and there is room for the vertices of the longest chain
pub record IsSound (s : Inside) : Type 0 where
  pub known : IsKnown s.held s.map
  pub room : 1024 ≤ vec_capacity s.weighted
