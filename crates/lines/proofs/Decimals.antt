-- Decimals that are read: each byte is a digit, and the number of some digits stays below the bound of all.
use Prim.Native.Nat.{ℕ, zero, suc, ◌+◌, ◌-◌, ◌*◌, ◌^◌, ◌≤◌, ◌<◌}
use native.Mathlib.Nat.{pow-le-pow_right, le_refl}
use native.Mathlib.Omega.{arith}
use mathlib.Core.Bool.{true}
use mathlib.Core.List.{List}
use mathlib.Core.Path.{◌≡◌, refl}
use borrow.Author.Tests.{leb-true, ltb-true}
use lib.ListN.{length}
use Rattle.ground.specs.Bytes.{digit_zero}
use Rattle.ground.specs.Rows.{at}
use Rattle.ground.proofs.Lists.{parts}
use Rattle.ground.proofs.Rows.{every_at}
use Rattle.lines.specs.Words.{digit_limit, is_digit, is_decimal, value_to}

-- A byte that is a digit, as its bounds.
abbrev pub Digit : ℕ → Type 0
Digit c = (digit_zero ≤ c) × (c < digit_zero + 10)

-- The test for a digit tells the truth.
digit_true : (c : ℕ) → is_digit c ≡ true → Digit c
digit_true c e = (leb-true digit_zero c (search parts), ltb-true c (digit_zero + 10) (search parts))

-- One digit more.
pub value_more : (word : List ℕ) (i : ℕ) → value_to word (suc i) ≡ value_to word i * 10 + (at word i - digit_zero)
unfolding value_to
value_more word i = refl

-- No digit is 0.
pub value_none : (word : List ℕ) → value_to word 0 ≡ 0
unfolding value_to
value_none word = refl

-- The number of i digits is below 10 ^ i.
value_below : (word : List ℕ) (i : ℕ) → ((j : ℕ) → j < i → Digit (at word j)) → value_to word i < 10 ^ i
value_below word zero digits = omega (arith, value_none word)
value_below word (suc i) digits =
    omega (arith, value_more word i, value_below word i (λ j l. digits j (omega arith)), digits i (le_refl (suc i)))

module _ (word : List ℕ) (decimal : is_decimal word ≡ true) where
  -- A decimal has no more digits than it may.
  pub decimal_short : length word ≤ digit_limit
  unfolding is_decimal
  decimal_short = leb-true (length word) digit_limit (search parts)

  -- Each place of a decimal is a digit.
  pub decimal_digit : (i : ℕ) → i < length word → Digit (at word i)
  unfolding is_decimal
  decimal_digit i l =
      digit_true (at word i) (every_at (length word) (λ j. is_digit (at word j)) (search parts) i l)

  -- The number of some of its digits is below what all may be.
  decimal_below : (i : ℕ) → i ≤ length word → value_to word i < 10 ^ digit_limit
  decimal_below i l =
      omega (
        arith,
        value_below word i (λ j k. decimal_digit j (omega arith)),
        pow-le-pow_right {n = 10} (omega arith) {i = i} {j = digit_limit} (omega (arith, decimal_short)),
      )

  -- And with one digit more.
  pub decimal_step : (i : ℕ) → i < length word → value_to word i * 10 + (at word i - digit_zero) < 10 ^ digit_limit
  decimal_step i l = rw (← value_more word i) (decimal_below (suc i) l)
