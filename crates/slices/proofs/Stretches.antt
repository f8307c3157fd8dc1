-- A stretch of a list: as it is lent to a call, copied over zeros, and laid over with another of its length.
use Prim.Native.Nat.{ℕ, ◌+◌, ◌-◌, ◌≤◌}
use native.Mathlib.Omega.{arith}
use mathlib.Core.List.{List}
use mathlib.Core.Path.{◌≡◌, ap, ◌∙◌}
use lib.ListN.{length, take, drop, length-take, length-drop}
use lib.Seq.{paste}
use Rattle.ground.specs.Rows.{zeros, filled}
use Rattle.ground.proofs.Stored.{filled_full}
use Rattle.slices.specs.Slices.{laid_over}
use Rattle.slices.proofs.Overlaid.{laid_fits, laid_zeros}

-- What is lent, from a place to n places after it.
pub lent : (xs : List ℕ) (from n : ℕ) {place : ℕ} → from ≡ place
    → take (from + n - from) (drop from xs) ≡ take n (drop place xs)
lent xs from n e =
    let all : from + n - from ≡ n = omega arith in
    rw all (ap (λ (p : ℕ). take n (drop p xs)) e)

module _ (xs : List ℕ) (place n : ℕ) (inside : place + n ≤ length xs) where
  -- The stretch has its length.
  stretch_length : length (take n (drop place xs)) ≡ n
  stretch_length = simp (length-take, length-drop) (omega arith)

  -- The stretch, laid over no fewer zeros, is filled up.
  pub copied_filled : (m : ℕ) → n ≤ m → {ys : List ℕ} → ys ≡ take n (drop place xs)
      → laid_over (zeros m) 0 ys ≡ filled m (take n (drop place xs))
  copied_filled m fits e =
      ap (laid_over (zeros m) 0) e ∙ laid_zeros m (take n (drop place xs)) (omega (arith, stretch_length))

  -- Over as many zeros it is a copy.
  pub copied : {ys : List ℕ} → ys ≡ take n (drop place xs) → laid_over (zeros n) 0 ys ≡ take n (drop place xs)
  copied e = copied_filled n (omega arith) e ∙ filled_full n (take n (drop place xs)) stretch_length

  -- Numbers laid over it.
  pub replaced : (ys : List ℕ) → length ys ≡ n → {from : ℕ} → from ≡ place → laid_over xs from ys ≡ paste xs place ys n
  replaced ys long e =
      ap (λ (p : ℕ). laid_over xs p ys) e
      ∙ laid_fits xs place ys (omega arith)
      ∙ ap (paste xs place ys) long
