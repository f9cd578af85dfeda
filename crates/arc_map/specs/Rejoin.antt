-- How the chains of an arc in memory are joined into it.
use Rattle.std.specs.Prelude.{ℕ, List, [], ◌∷◌, ◌++◌, nat_eq, if◌then◌else◌, map, take, drop}
use Rattle.grid_exact.specs.Geometry.{Place}
use Rattle.arc_map.specs.Live.{LiveChain, chain_of}
use Rattle.arc_map.specs.declared.work.Span.{Span}

-- the chains at the head of the list that are of the arc
abbrev pub run_of : ℕ → List LiveChain → List LiveChain
run_of arc [] = []
run_of arc (c ∷ cs) = if nat_eq c.place.arc arc then c ∷ run_of arc cs else []

-- the chains of the arc, from the chain number start on, of those that are these parts of the list
abbrev pub run_from : ℕ → ℕ → List Place → List Span → List LiveChain
run_from arc start vertices spans = run_of arc (drop start (map (chain_of vertices) spans))

-- the positions of the chains, but for the first of each
abbrev pub tails : List LiveChain → List Place
tails [] = []
tails (c ∷ cs) = drop 1 c.vertices ++ tails cs

-- the arc that these chains make up, or the arc as it was where there are none
abbrev pub rejoined : List Place → List LiveChain → List Place
rejoined ps [] = ps
rejoined ps (c ∷ cs) = take 1 c.vertices ++ tails (c ∷ cs)
