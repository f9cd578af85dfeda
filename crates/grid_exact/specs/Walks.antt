-- Walks: a first vertex and those after it. A chain is a walk, and so is a run of it.
use Rattle.std.specs.Prelude.{ℕ, zero, suc, Bool, true, false, not, List, [], ◌∷◌}
use Rattle.grid_exact.specs.Geometry.{Place}
use Rattle.grid_exact.specs.Segments.{IsOffSegment}

-- each edge of the walk from v along ws has the property
abbrev pub EachEdge : {A : Type 0} → (A → A → Type 0) → A → List A → Type 0
EachEdge P v [] = Unit {0}
EachEdge P v (w ∷ ws) = P v w × EachEdge P w ws

-- where the walk from v along ws ends
abbrev pub end_of : {A : Type 0} → A → List A → A
end_of v [] = v
end_of v (w ∷ ws) = end_of w ws

-- how many of the edges of the walk from v along ws pass a test
abbrev pub count_edges : {A : Type 0} → (A → A → Bool) → A → List A → ℕ
count_edges test v [] = 0
count_edges test v (w ∷ ws) = elim (test v w) [ true ↦ suc (count_edges test w ws) | false ↦ count_edges test w ws ]

abbrev pub is_odd : ℕ → Bool
is_odd zero = false
is_odd (suc n) = not (is_odd n)

-- exactly one of the two
abbrev pub differ : Bool → Bool → Bool
differ true b = not b
differ false b = b

-- p is on no edge of the walk from v along ws
abbrev pub IsOff : Place → Place → List Place → Type 0
IsOff p v ws = EachEdge (IsOffSegment p) v ws
