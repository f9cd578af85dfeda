use Rattle.std.proofs.Common.{◌<◌, ℕ}
use Rattle.grid_exact.specs.Geometry.{IsWithin}
use Rattle.cert_checker.specs.Runs.{place_at}
use Rattle.cert_checker.proofs.near.is_near.Given as goal

abbrev pub invariant-loop-at : goal.invariant-loop-at
invariant-loop-at l = (n : ℕ) → l.i < n → n < l.at → IsWithin (place_at l.places l.i) (place_at l.places l.j) (place_at l.places n) l.bound
