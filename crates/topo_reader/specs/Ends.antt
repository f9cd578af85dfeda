-- How often a position is an end of arcs.
use Rattle.std.specs.Prelude.{◌≡◌, ℕ, ◌+◌, ◌%◌, Option, None, Some, List, [], slice_get, sum_by, if◌then◌else◌}
use Rattle.std.specs.List.{slice_index_or}
use Rattle.grid_exact.specs.Geometry.{Place}
use Rattle.topo_reader.specs.Arcs.{same_place, last_of}

-- 1 where this is the position, else 0
abbrev pub times_at : Place → Option Place → ℕ
times_at p None = 0
times_at p (Some q) = if same_place q p then 1 else 0

-- how often a position is an end of an arc; the position of an arc that has only one is both its ends
abbrev pub ends_at : Place → List Place → ℕ
ends_at p arc = times_at p (slice_get arc 0) + times_at p (last_of arc)

-- how often a position is an end of the arcs with these numbers, counted with repeats
abbrev pub named_ends : List (List Place) → Place → List ℕ → ℕ
named_ends arcs p numbers = sum_by (λ k. ends_at p (slice_index_or arcs k [])) numbers

-- each position is an even number of times an end of the arcs with these numbers
abbrev pub HasEvenEnds : List (List Place) → List ℕ → Type 0
HasEvenEnds arcs numbers = (p : Place) → named_ends arcs p numbers % 2 ≡ 0
