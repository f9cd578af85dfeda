-- Arcs that are not marked are dropped from the end of a list.
use Rattle.std.proofs.Common.{◌≡◌, ◌++◌, ℕ, List, [], Bool, false, All, get_or}

pub record IsDropped (marks : List Bool) (before now : List ℕ) : Type 0 where
  pub dropped : List ℕ
  pub is : before ≡ now ++ dropped
  pub unmarked : All (λ k. get_or marks k false ≡ false) dropped
