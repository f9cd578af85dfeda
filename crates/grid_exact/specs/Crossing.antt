-- When an edge is crossed from a point: by a ray that goes straight up from it, tilted so little that it meets no vertex.
use Rattle.std.specs.Prelude.{Bool, ◌&&◌, ◌||◌, pos, int_lt, int_le}
use Rattle.grid_exact.specs.Geometry.{Place, area_of, turned}

-- a comes before b where x, then y is compared
abbrev pub is_before : Place → Place → Bool
is_before a b = int_lt a.x b.x || (int_le a.x b.x && int_lt a.y b.y)

-- p stands after a and before b, to the right of the way from a to b
abbrev pub is_passed : Place → Place → Place → Bool
is_passed p a b = is_before a p && is_before p b && int_lt (area_of a b p) (pos 0)

-- the edge ab is crossed from p: p stands between its ends and below it
abbrev pub is_crossed : Place → Place → Place → Bool
is_crossed p a b = is_passed p a b || is_passed p b a

-- the same where y, then x is compared: p stands to the left of the way from a to b
abbrev pub is_passed_sideways : Place → Place → Place → Bool
is_passed_sideways p a b = is_before (turned a) (turned p) && is_before (turned p) (turned b) && int_lt (pos 0) (area_of a b p)

abbrev pub is_crossed_sideways : Place → Place → Place → Bool
is_crossed_sideways p a b = is_passed_sideways p a b || is_passed_sideways p b a

-- v is past p in both orders
abbrev pub is_ahead : Place → Place → Bool
is_ahead p v = is_before p v && is_before (turned p) (turned v)
