-- Distinctions by cases that name the question first, so that each answer's fact has its type where it is used.
use Prim.Native.Nat.{ℕ}
use mathlib.Core.Bool.{Bool, true, false}
use mathlib.Core.Logic.{◌≢◌, ⊎_elim}
use mathlib.Core.Path.{◌≡◌}
use Rattle.ground.proofs.Tests.{yes_or_no, equal_or_not}

-- By what a test answers.
pub by_test {ℓ} : {A : Type ℓ} (b : Bool) → (b ≡ true → A) → (b ≡ false → A) → A
by_test b t f = ⊎_elim t f (yes_or_no b)

-- By whether two numbers are equal.
pub by_equal {ℓ} : {A : Type ℓ} (a b : ℕ) → (a ≡ b → A) → (a ≢ b → A) → A
by_equal a b t f = ⊎_elim t f (equal_or_not a b)
