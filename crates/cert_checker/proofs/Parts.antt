-- The parts of a run of a chain: its ends, and what is between them, by places and by vertices.
use Rattle.std.proofs.Common.{◌≡◌, ◌∙◌, ◌+◌, ◌-◌, ◌<◌, ◌≤◌, ℕ, List, [], ◌∷◌, ◌++◌, length, get_or, take, drop, map, sym, ap, arith}
use Rattle.std.specs.List.{between}
use Rattle.std.proofs.lemmas.List.{drop-map, get_or_default, get_or-drop, get_or-take, get_or-map, length-drop, length-map, length-take-le}
use Rattle.std.proofs.lemmas.List.{take-map, take_all, take_more, take-take}
use Rattle.grid_exact.specs.Geometry.{Place}
use Rattle.arc_map.specs.Arranged.{nowhere}
use Rattle.arc_map.specs.Chains.{Chain, chain_places}
use Rattle.arc_map.specs.Paths.{vertex_at, vertices_of}
use Rattle.arc_map.specs.Vertices.{Vertex, places}
use Rattle.cert_checker.specs.Runs.{place_at, run_end, run_inner}

-- ---- a run by its first place and the rest

pub split_last : (first : Place) (rest : List Place) → 0 < length rest → rest ≡ run_inner rest ++ run_end first rest ∷ []
split_last first rest some =
    let last : length rest - 1 < length rest = omega arith in
    let all : length rest ≤ (length rest - 1) + 1 = omega arith in
    sym (take_all ((length rest - 1) + 1) rest all) ∙ take_more rest (length rest - 1) first last

pub last_is_end : (first last : Place) (rest : List Place) → 0 < length rest → last ≡ get_or rest (length rest - 1) last
    → last ≡ run_end first rest
last_is_end first last rest some read =
    let within : length rest - 1 < length rest = omega arith in
    read ∙ get_or_default rest (length rest - 1) last first within

-- ---- a run as a part of a list

-- the run from the place number i to that number j
pub record RunParts (ps : List Place) (i j : ℕ) (first : Place) (rest : List Place) : Type 0 where
  pub some : 0 < length rest
  pub start : first ≡ place_at ps i
  pub inner : run_inner rest ≡ between (i + 1) j ps
  pub end : run_end first rest ≡ place_at ps j

pub run_parts : (ps : List Place) (i j : ℕ) (first : Place) → i < j → j < length ps → first ≡ get_or ps i first
    → RunParts ps i j first (take (j + 1 - (i + 1)) (drop (i + 1) ps))
run_parts ps i j first order within read =
    let rest = take (j + 1 - (i + 1)) (drop (i + 1) ps) in
    let size : length (drop (i + 1) ps) ≡ length ps - (i + 1) = length-drop (i + 1) ps in
    let room : j + 1 - (i + 1) ≤ length (drop (i + 1) ps) = omega (arith, size) in
    let count : length rest ≡ j + 1 - (i + 1) = length-take-le (j + 1 - (i + 1)) (drop (i + 1) ps) room in
    let last : length rest - 1 ≡ j - (i + 1) = omega (arith, count) in
    let fewer : j - (i + 1) ≤ j + 1 - (i + 1) = omega arith in
    let inside : j - (i + 1) < j + 1 - (i + 1) = omega arith in
    let place : i + 1 + (j - (i + 1)) ≡ j = omega arith in
    let here : i < length ps = omega arith in
    record {
      some = omega (arith, count);
      start = read ∙ get_or_default ps i first nowhere here;
      inner = ap (λ n. take n rest) last ∙ take-take (j - (i + 1)) (j + 1 - (i + 1)) (drop (i + 1) ps) fewer;
      end = ap (λ n. get_or rest n first) last
          ∙ get_or-take (j + 1 - (i + 1)) (drop (i + 1) ps) (j - (i + 1)) first inside
          ∙ get_or-drop (i + 1) ps (j - (i + 1)) first
          ∙ ap (λ n. get_or ps n first) place
          ∙ get_or_default ps j first nowhere within;
    }

-- ---- places and vertices

pub between-map : {X Y : Type 0} (f : X → Y) (a b : ℕ) (xs : List X) → between a b (map f xs) ≡ map f (between a b xs)
between-map f a b xs = ap (take (b - a)) (drop-map f a xs) ∙ take-map f (b - a) (drop a xs)

pub place_of_vertex : (k : Chain) (i : ℕ) → i ≤ length k.rest → (vertex_at k i).place ≡ place_at (chain_places k) i
place_of_vertex k i within =
    let known : i < length (vertices_of k) = omega arith in
    sym (get_or-map (λ v. v.place) (vertices_of k) i k.first nowhere known)

pub places_between : (k : Chain) (a b : ℕ) → places (between a b (vertices_of k)) ≡ between a b (chain_places k)
places_between k a b = sym (between-map (λ (v : Vertex). v.place) a b (vertices_of k))
