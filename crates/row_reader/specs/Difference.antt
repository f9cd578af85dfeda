-- Where two lists first differ.
use Rattle.std.specs.Prelude.{◌≡◌, ◌≢◌, ℕ, List, take, slice_get}

-- the lists are equal before place k, and at it they differ, or one of them has ended
pub record IsFirstDifference {A : Type 0} (xs ys : List A) (k : ℕ) : Type 0 where
  pub same_before : take k xs ≡ take k ys
  pub differ : slice_get xs k ≢ slice_get ys k
