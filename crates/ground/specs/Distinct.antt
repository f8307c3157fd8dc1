-- Words: "no hub is met twice": the numbers of a list are pairwise distinct.
use Rattle.std.specs.Prelude.{ℕ, List, [], ◌∷◌, ◌≢◌}
use Rattle.ground.specs.Each.{Each}

-- The numbers of a list are pairwise distinct: the first differs from each of the others, and these are distinct.
pub data Distinct : List ℕ → Type 0 where
  alone : Distinct []
  apart : {x : ℕ} {xs : List ℕ} → Each (λ y. x ≢ y) xs → Distinct xs → Distinct (x ∷ xs)
