-- The laws of crossings and of views, as facts about all places and walks.
use Rattle.std.specs.Prelude.{◌≡◌, List}
use Rattle.grid_exact.specs.Geometry.{Place, turned}
use Rattle.grid_exact.specs.Crossing.{is_crossed, is_crossed_sideways}
use Rattle.grid_exact.specs.Walks.{count_edges, is_odd, end_of, IsOff}
use Rattle.grid_exact.specs.Views.{IsView, same_view, negated}

-- a closed walk that p is not on is crossed and crossed sideways with the same parity
abbrev pub ClosedWalksAgree : Type 0
ClosedWalksAgree = (p v : Place) (ws : List Place) → IsOff p v ws → end_of v ws ≡ v
    → is_odd (count_edges (is_crossed p) v ws) ≡ is_odd (count_edges (is_crossed_sideways p) v ws)

-- the plane as it is, with its axes exchanged, and turned half round are views, and so is a view of a view
pub record ArePlaneViews : Type 0 where
  pub as_it_is : IsView same_view
  pub exchanged : IsView turned
  pub half_round : IsView negated
  pub one_after_another : (f g : Place → Place) → IsView f → IsView g → IsView (λ v. g (f v))
