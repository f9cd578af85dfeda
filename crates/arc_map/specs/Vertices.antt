-- The positions of the arcs of a map as vertices with a name, and when two edges meet lawfully.
use Rattle.std.specs.Prelude.{◌≡◌, ℕ, ℤ, pos, Bool, IsTrue, List, map}
use Rattle.grid_exact.specs.Geometry.{Place, CommonPoint}

-- a position of an arc: its arc, its number in the arc as read, whether it is the arc's first or last
-- position, and its place; a map that is thinned keeps some of its vertices, unchanged
pub record Vertex : Type 0 where
  pub arc : ℕ
  pub at : ℕ
  pub is_end : Bool
  pub place : Place

abbrev pub places : List Vertex → List Place
places vs = map (λ v. v.place) vs

-- edges may join where these two vertices are: they are one vertex, or both end their arcs
pub data MayJoin (v w : Vertex) : Type 0 where
  One : v ≡ w → MayJoin v w
  BothEnd : IsTrue v.is_end → IsTrue w.is_end → MayJoin v w

-- the common point with these fractions is a lawful junction of the edges ab and cd: an end of each,
-- where they may join
pub data IsJunction (a b c d : Vertex) (denominator first second : ℤ) : Type 0 where
  Starts : first ≡ pos 0 → second ≡ pos 0 → MayJoin a c → IsJunction a b c d denominator first second
  StartAndEnd : first ≡ pos 0 → second ≡ denominator → MayJoin a d → IsJunction a b c d denominator first second
  EndAndStart : first ≡ denominator → second ≡ pos 0 → MayJoin b c → IsJunction a b c d denominator first second
  Ends : first ≡ denominator → second ≡ denominator → MayJoin b d → IsJunction a b c d denominator first second

-- the edges ab and cd do not clash: each of their common points is a lawful junction
abbrev pub MeetLawfully : Vertex → Vertex → Vertex → Vertex → Type 0
MeetLawfully a b c d = (h : CommonPoint a.place b.place c.place d.place) → IsJunction a b c d h.denominator h.first h.second
