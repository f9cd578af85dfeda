-- What hints stand for.
use Rattle.std.specs.Prelude.{ℤ, ◌<◌, ◌≤◌, List, length}
use Rattle.shortcut_graph.specs.Corridor.{IsCorridor}
use Rattle.shortcut_graph.specs.declared.hints.Hints.{Hints}

-- the corridor starts at the anchor, and stands for the vertices from the first one up to it
pub record AreHints (h : Hints) (xs ys : List ℤ) (bound : ℤ) : Type 0 where
  pub in_lists : h.anchor < length xs
  pub order : h.first ≤ h.anchor
  pub stands : IsCorridor h.corridor xs ys bound h.first h.anchor
