-- How far from a run a place can be that changes sides where the run is cut short.
use Rattle.std.specs.Prelude.{◌⊎◌, Contains, List, [], ◌∷◌, ℤ, pos, ◌+ℤ◌, ◌-ℤ◌, ◌*ℤ◌, ◌≤ℤ◌, ◌<ℤ◌}
use Rattle.grid_exact.specs.Geometry.{Place}
use Rattle.grid_exact.specs.Near.{weighted}
use Rattle.grid_exact.specs.Walks.{EachEdge}
use Rattle.grid_exact.specs.Runs.{IsEdgeOf}

-- ---- the hull of a walk

-- how far q is ahead of p in the direction (a, b)
abbrev pub ahead_of : ℤ → ℤ → Place → Place → ℤ
ahead_of a b p q = a *ℤ (q.x -ℤ p.x) +ℤ b *ℤ (q.y -ℤ p.y)

-- each vertex of the walk from v along ws has the property
abbrev pub EachVertex : (Place → Type 0) → Place → List Place → Type 0
EachVertex P v [] = P v
EachVertex P v (w ∷ ws) = P v × EachVertex P w ws

-- p is in the convex hull of the walk's vertices: no direction leaves them all behind it
abbrev pub IsInHull : Place → Place → List Place → Type 0
IsInHull p v ws = (a b : ℤ) → ¬ (EachVertex (λ q. ahead_of a b p q <ℤ pos 0) v ws)

-- ---- the boxes of its edges

-- p is out of the box of a and b, grown by r on all four sides
pub data IsBeyond (r : ℤ) (p a b : Place) : Type 0 where
  LeftOf : (p.x +ℤ r) <ℤ a.x → (p.x +ℤ r) <ℤ b.x → IsBeyond r p a b
  RightOf : (a.x +ℤ r) <ℤ p.x → (b.x +ℤ r) <ℤ p.x → IsBeyond r p a b
  Under : (p.y +ℤ r) <ℤ a.y → (p.y +ℤ r) <ℤ b.y → IsBeyond r p a b
  Over : (a.y +ℤ r) <ℤ p.y → (b.y +ℤ r) <ℤ p.y → IsBeyond r p a b

-- p is out of reach of the walk from v along ws with the bound e: out of the box of each edge, grown by twice the bound
abbrev pub IsOutOfReach : ℤ → Place → Place → List Place → Type 0
IsOutOfReach e p v ws = EachEdge (IsBeyond (pos 2 *ℤ e) p) v ws

-- the same where lengths across count wx-fold and lengths up count wy-fold
abbrev pub IsOutOfReachBy : ℤ → ℤ → ℤ → Place → Place → List Place → Type 0
IsOutOfReachBy wx wy e p v ws = EachEdge (λ a b. IsBeyond (pos 2 *ℤ e) (weighted wx wy p) (weighted wx wy a) (weighted wx wy b)) v ws

-- p is in the box of a and b, grown by r to the left and right and by s at the bottom and top
pub record IsInGrownBox (r s : ℤ) (p a b : Place) : Type 0 where
  pub left : (a.x ≤ℤ (p.x +ℤ r)) ⊎ (b.x ≤ℤ (p.x +ℤ r))
  pub right : (p.x ≤ℤ (a.x +ℤ r)) ⊎ (p.x ≤ℤ (b.x +ℤ r))
  pub bottom : (a.y ≤ℤ (p.y +ℤ s)) ⊎ (b.y ≤ℤ (p.y +ℤ s))
  pub top : (p.y ≤ℤ (a.y +ℤ s)) ⊎ (p.y ≤ℤ (b.y +ℤ s))

-- p is in reach of the walk from v along ws with the bound e: in the box of some edge, grown by twice the bound
pub record IsInReachBy (wx wy e : ℤ) (p v : Place) (ws : List Place) : Type 0 where
  pub start : Place
  pub end : Place
  pub edge : IsEdgeOf v ws start end
  pub box : IsInGrownBox (pos 2 *ℤ e) (pos 2 *ℤ e) (weighted wx wy p) (weighted wx wy start) (weighted wx wy end)

-- p is in the box of some edge of the walk, grown by r to the left and right and by s at the bottom and top
pub record IsInSomeBox (r s : ℤ) (p v : Place) (ws : List Place) : Type 0 where
  pub start : Place
  pub end : Place
  pub edge : IsEdgeOf v ws start end
  pub box : IsInGrownBox r s p start end

-- ---- the places of its edges

-- z is between -b and b, and neither of them
pub record IsUnder (b z : ℤ) : Type 0 where
  pub low : (pos 0 -ℤ b) <ℤ z
  pub high : z <ℤ b

-- p is less than r across and less than s up from some place of the closed segment ab, the fraction `numerator / denominator` of the way
-- from a to b
pub record IsBySegment (r s : ℤ) (p a b : Place) : Type 0 where
  pub denominator : ℤ
  pub numerator : ℤ
  pub whole : pos 1 ≤ℤ denominator
  pub from_start : pos 0 ≤ℤ numerator
  pub to_end : numerator ≤ℤ denominator
  pub across : IsUnder (denominator *ℤ r) (denominator *ℤ (p.x -ℤ a.x) -ℤ numerator *ℤ (b.x -ℤ a.x))
  pub up : IsUnder (denominator *ℤ s) (denominator *ℤ (p.y -ℤ a.y) -ℤ numerator *ℤ (b.y -ℤ a.y))

-- p is close to the segment ab with the bound e: less than one more than twice the bound from some place of it, on each axis
abbrev pub IsCloseToSegment : ℤ → ℤ → ℤ → Place → Place → Place → Type 0
IsCloseToSegment wx wy e p a b =
    IsBySegment (pos 2 *ℤ e +ℤ pos 1) (pos 2 *ℤ e +ℤ pos 1) (weighted wx wy p) (weighted wx wy a) (weighted wx wy b)

-- p is close to some edge of the walk from v along ws
pub record IsCloseBy (wx wy e : ℤ) (p v : Place) (ws : List Place) : Type 0 where
  pub start : Place
  pub end : Place
  pub edge : IsEdgeOf v ws start end
  pub close : IsCloseToSegment wx wy e p start end

-- p is less than r across and less than s up from some place of some edge of the walk
pub record IsBySomeEdge (r s : ℤ) (p v : Place) (ws : List Place) : Type 0 where
  pub start : Place
  pub end : Place
  pub edge : IsEdgeOf v ws start end
  pub by : IsBySegment r s p start end

-- ---- boxes that hold a walk between them

-- a box, from its lowest corner to its highest
pub record Box : Type 0 where
  pub low : Place
  pub high : Place

-- q is in the box, grown by r to the left and right and by s at the bottom and top
pub record IsHeldBy (r s : ℤ) (box : Box) (q : Place) : Type 0 where
  pub left : box.low.x ≤ℤ (q.x +ℤ r)
  pub right : q.x ≤ℤ (box.high.x +ℤ r)
  pub bottom : box.low.y ≤ℤ (q.y +ℤ s)
  pub top : q.y ≤ℤ (box.high.y +ℤ s)

-- one of the boxes holds both a and b
pub record AreTogether (boxes : List Box) (a b : Place) : Type 0 where
  pub box : Box
  pub among : Contains boxes box
  pub start : IsHeldBy (pos 0) (pos 0) box a
  pub end : IsHeldBy (pos 0) (pos 0) box b

-- one of the boxes, grown, holds p
pub record IsFound (r s : ℤ) (boxes : List Box) (p : Place) : Type 0 where
  pub box : Box
  pub among : Contains boxes box
  pub held : IsHeldBy r s box p
