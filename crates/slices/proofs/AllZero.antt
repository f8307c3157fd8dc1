-- Numbers that are all 0: each of them is, and whether some is not.
use Prim.Native.Nat.{ℕ, ◌<◌}
use native.Mathlib.Omega.{arith}
use mathlib.Core.Bool.{Bool, true, false, not}
use mathlib.Core.List.{List}
use mathlib.Core.Logic.{⊎_elim}
use mathlib.Core.Path.{◌≡◌, sym, ap, ◌∙◌}
use borrow.Author.Tests.{eqb-true, eqb-false, not-true, not-false}
use lib.Dec.{eqb}
use lib.ListN.{length}
use Rattle.ground.specs.Rows.{at, some}
use Rattle.ground.proofs.Rows.{some_at, some_none}
use Rattle.ground.proofs.Tests.{yes_or_no, not_yes, not_both}
use Rattle.slices.specs.Greatest.{all_zero, zero_at}
use Rattle.slices.specs.Slices.{is_nothing}

module _ (xs : List ℕ) where
  -- Whether some number is not 0.
  pub some_number : (n : ℕ) → length xs ≡ n → some n (λ k. not (eqb (at xs k) 0)) ≡ not (is_nothing xs)
  some_number n long =
      ⊎_elim
      (λ z. not_yes (some n p) (λ t. none_there z (some_at n p t)) ∙ sym (ap not z))
      (λ z. ⊎_elim (λ s. s ∙ sym (ap not z)) (λ none. absurd (not_both (is_nothing xs) (all_there none) z)) (yes_or_no (some n p)))
      (yes_or_no (is_nothing xs))
    where
      p : ℕ → Bool
      p k = not (eqb (at xs k) 0)

      none_there : is_nothing xs ≡ true → (i : ℕ) × (i < n) × (p i ≡ true) → ⊥
      none_there z found =
          eqb-false (at xs found.0) 0 (not-true (eqb (at xs found.0) 0) found.2) (zero_at xs z found.0)

      all_there : some n p ≡ false → is_nothing xs ≡ true
      all_there none =
          all_zero xs (λ k l.
          eqb-true (at xs k) 0 (not-false (eqb (at xs k) 0) (some_none n p none k (omega arith))))
