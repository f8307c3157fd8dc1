-- Sets as one number, the sum of 2 ^ k over their units k: digit k tells whether unit k is in it, and a loop that halves the
-- number meets the digits in turn.
use Prim.Native.Nat.{ℕ, zero, suc, ◌+◌, ◌*◌, ◌/◌, ◌%◌, ◌^◌, ◌<◌}
use native.Mathlib.Nat.{two-pow-succ, lt-suc_self, add-zero, div-div-eq-div-mul, pow-succ'}
use native.Mathlib.Nat.{le_of_suc-le-suc, not-suc-le-zero}
use native.Mathlib.Numerals.{add-one}
use native.Mathlib.Omega.{arith}
use mathlib.Core.Bool.{Bool, true, false}
use mathlib.Core.Path.{◌≡◌, refl, sym, ap, ap₂, ◌∙◌}
use lib.Dec.{eqb}
use Rattle.std.specs.Prelude.{if◌then◌else◌}
use Rattle.ground.specs.Rows.{bits, is_in}

-- The power of the next unit is twice the power of this.
pub twice : (n : ℕ) → 2 ^ n * 2 ≡ 2 ^ (n + 1)
twice n = rw add-one (omega (arith, two-pow-succ n))

-- A set of units below n is below 2 ^ n.
pub bits_below : (n : ℕ) (p : ℕ → Bool) → bits n p < 2 ^ n
bits_below zero p = omega arith
bits_below (suc n) p = more (p n) (bits_below n p)
  where
    more : (b : Bool) → bits n p < 2 ^ n → bits n p + (if b then 2 ^ n else 0) < 2 ^ suc n
    more true h = omega (arith, two-pow-succ n)
    more false h = omega (arith, two-pow-succ n)

-- Tests that agree below n give the same set.
pub bits_ext : (n : ℕ) (p q : ℕ → Bool) → ((i : ℕ) → i < n → p i ≡ q i) → bits n p ≡ bits n q
bits_ext zero p q h = refl
bits_ext (suc n) p q h =
    ap₂ (λ (s : ℕ) (b : Bool). s + (if b then 2 ^ n else 0))
    (bits_ext n p q (λ i l. h i (omega arith)))
    (h n (lt-suc_self n))

-- One turn of a loop that adds the units, where the next is in the set.
pub bits_in : (n : ℕ) (p : ℕ → Bool) → p n ≡ true → bits n p + 2 ^ n ≡ bits (n + 1) p
bits_in n p e = sym (rw (add-one, e))

-- And where it is not.
pub bits_out : (n : ℕ) (p : ℕ → Bool) → p n ≡ false → bits n p ≡ bits (n + 1) p
bits_out n p e = sym (rw (add-one, e) (add-zero (bits n p)))

-- A set is its lowest digit and twice the set of the units after the first.
bits_shift : (n : ℕ) (p : ℕ → Bool) → bits (suc n) p ≡ (if p 0 then 1 else 0) + bits n (λ k. p (suc k)) * 2
bits_shift zero p = first (p 0)
  where
    first : (b : Bool) → 0 + (if b then 1 else 0) ≡ (if b then 1 else 0) + 0 * 2
    first true = refl
    first false = refl
bits_shift (suc n) p = go (p (suc n)) (bits_shift n p)
  where
    go : (b : Bool) → bits (suc n) p ≡ (if p 0 then 1 else 0) + bits n (λ k. p (suc k)) * 2
        → bits (suc n) p + (if b then 2 ^ suc n else 0)
        ≡ (if p 0 then 1 else 0) + (bits n (λ k. p (suc k)) + (if b then 2 ^ n else 0)) * 2
    go true e = omega (arith, two-pow-succ n)
    go false e = omega arith

-- Unit k is in the set of a test where the test holds of it.
pub in_bits : (n : ℕ) (p : ℕ → Bool) (k : ℕ) → k < n → is_in (bits n p) k ≡ p k
in_bits zero p k l = absurd (not-suc-le-zero l)
in_bits (suc n) p zero l = go (p 0) (bits_shift n p)
  where
    go : (b : Bool) → bits (suc n) p ≡ (if b then 1 else 0) + bits n (λ k. p (suc k)) * 2 → is_in (bits (suc n) p) 0 ≡ b
    go true e = let odd : bits (suc n) p / 1 % 2 ≡ 1 = omega arith in ap (λ (d : ℕ). eqb d 1) odd
    go false e = let even : bits (suc n) p / 1 % 2 ≡ 0 = omega arith in ap (λ (d : ℕ). eqb d 1) even
in_bits (suc n) p (suc k) l =
    rw (pow-succ', ← div-div-eq-div-mul, half (p 0) (bits_shift n p)) (in_bits n (λ j. p (suc j)) k (le_of_suc-le-suc l))
  where
    half : (b : Bool) → bits (suc n) p ≡ (if b then 1 else 0) + bits n (λ j. p (suc j)) * 2
        → bits (suc n) p / 2 ≡ bits n (λ j. p (suc j))
    half true e = omega arith
    half false e = omega arith

-- What is left of a set when it is halved once more.
pub halved : (set k : ℕ) → set / 2 ^ k / 2 ≡ set / 2 ^ (k + 1)
halved set k = div-div-eq-div-mul set (2 ^ k) 2 ∙ ap (λ (d : ℕ). set / d) (twice k)
