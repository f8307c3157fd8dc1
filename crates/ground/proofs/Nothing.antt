-- Rows of nothing: filled up, laid one after the other, or made from tests that hold of no unit.
use Prim.Native.Nat.{ℕ, zero, suc, ◌+◌, ◌-◌, ◌*◌, ◌≤◌, ◌<◌}
use native.Mathlib.Nat.{zero-mul, suc-mul}
use native.Mathlib.Omega.{arith}
use mathlib.Core.Bool.{Bool, false}
use mathlib.Core.List.{append-nil}
use mathlib.Core.Path.{◌≡◌, refl, sym, ap, ◌∙◌}
use lib.ListN.{length-replicate, replicate-append-replicate}
use Rattle.ground.specs.Rows.{at, tab, zeros, bits, filled, joined}
use Rattle.ground.proofs.Bits.{bits_ext}
use Rattle.ground.proofs.Lists.{at_zeros, joined_append}
use Rattle.ground.proofs.Rows.{tab_ext, tab_row}

-- A row of nothing, filled up, is a longer one.
pub filled_zeros : (m n : ℕ) → n ≤ m → filled m (zeros n) ≡ zeros m
filled_zeros m n h =
    let all : n + (m - n) ≡ m = omega arith in
    rw length-replicate (replicate-append-replicate n (m - n) 0 ∙ ap zeros all)

-- Rows of nothing, laid one after the other.
pub joined_zeros : (w n : ℕ) → joined (tab n (λ k. zeros w)) ≡ zeros (n * w)
joined_zeros w zero = rw zero-mul
joined_zeros w (suc n) =
    rw (joined_append, joined_zeros w n, suc-mul, append-nil) (replicate-append-replicate (n * w) w 0)

-- A row made from a function that gives nothing below n.
pub tab_zeros : (n : ℕ) (f : ℕ → ℕ) → ((j : ℕ) → j < n → f j ≡ 0) → tab n f ≡ zeros n
tab_zeros n f h =
    tab_ext n f (at (zeros n)) (λ j l. h j l ∙ sym (at_zeros n j)) ∙ tab_row n (zeros n) 0 (length-replicate n 0)

-- The set that a test makes which holds of no unit below n.
pub bits_none : (n : ℕ) (p : ℕ → Bool) → ((i : ℕ) → i < n → p i ≡ false) → bits n p ≡ 0
bits_none n p h = bits_ext n p (λ i. false) h ∙ empty n
  where
    empty : (k : ℕ) → bits k (λ i. false) ≡ 0
    empty zero = refl
    empty (suc k) = omega (arith, empty k)
