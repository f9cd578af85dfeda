-- Parities of polygons, and the list of those that were turned.
use Rattle.std.specs.Prelude.{◌≡◌, ◌≢◌, ◌≤◌, ℕ, Bool, true, false, length, get_or, vec_capacity, All, AllPairs, Contains}
use Rattle.face_parity.specs.declared.tally.Tally.{Tally}

-- whether the polygon was turned an odd number of times
abbrev pub is_odd_at : Tally → ℕ → Bool
is_odd_at t polygon = get_or t.odd.items polygon false

-- the list has each polygon that was turned, once, and there is room in it for all polygons
pub record IsTally (t : Tally) : Type 0 where
  pub count : length t.listed.items ≡ length t.odd.items
  pub room : length t.odd.items ≤ vec_capacity t.turned
  pub once : AllPairs (λ j k. j ≢ k) t.turned.items
  pub marked : All (λ k. get_or t.listed.items k false ≡ true) t.turned.items
  pub listed : (k : ℕ) → get_or t.listed.items k false ≡ true → Contains t.turned.items k
  pub odd : (k : ℕ) → get_or t.odd.items k false ≡ true → get_or t.listed.items k false ≡ true
