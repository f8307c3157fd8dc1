-- The lowest free place of a meter: there is none exactly where all places hold a frame.
use Prim.Native.Nat.{ℕ, zero, suc, ◌≤◌, ◌<◌}
use native.Mathlib.Nat.{lt-suc_self, not-suc-le-zero, le_antisymm}
use native.Mathlib.Omega.{arith}
use mathlib.Core.Bool.{Bool, true, false, not}
use mathlib.Core.Logic.{⊎_elim}
use mathlib.Core.Path.{◌≡◌, refl, sym, ap, ◌∙◌}
use borrow.Author.Tests.{eq-eqb, eqb-true, not-true, not-false}
use lib.Dec.{eqb}
use Rattle.std.specs.Prelude.{if◌then◌else◌}
use Rattle.ground.specs.Limits.{frame_limit}
use Rattle.ground.specs.Rows.{total, lowest}
use Rattle.ground.proofs.Rows.{below_suc, lowest_le, lowest_first, lowest_holds}
use Rattle.ground.proofs.Tests.{same_tests, less_or_not}
use Rattle.frames.specs.Meter.{Meter, is_held, frame_at, held_frames, free_place}

module _ (held : ℕ → Bool) where
  -- How a place counts among those held.
  abbrev one : ℕ → ℕ
  one place = if held place then 1 else 0

  -- A place that is held counts 1.
  one_held : (place : ℕ) → held place ≡ true → one place ≡ 1
  one_held place e = ap (λ (b : Bool). if b then 1 else 0) e

  -- One that is free counts 0.
  one_free : (place : ℕ) → held place ≡ false → one place ≡ 0
  one_free place e = ap (λ (b : Bool). if b then 1 else 0) e

  -- It counts at most 1.
  one_most : (place : ℕ) → one place ≤ 1
  one_most place = go (held place)
    where
      go : (b : Bool) → (if b then 1 else 0) ≤ 1
      go true = omega arith
      go false = omega arith

  -- At most n of n places are held.
  count_most : (n : ℕ) → total n one ≤ n
  count_most zero = omega arith
  count_most (suc n) = omega (arith, count_most n, one_most n)

  -- Where each of them is, n are held.
  count_full : (n : ℕ) → ((place : ℕ) → place < n → held place ≡ true) → total n one ≡ n
  count_full zero all = refl
  count_full (suc n) all = omega (arith, count_full n (λ i l. all i (omega arith)), one_held n (all n (lt-suc_self n)))

  -- Where one of them is free, fewer are.
  count_gap : (n place : ℕ) → place < n → held place ≡ false → total n one < n
  count_gap zero place l e = absurd (not-suc-le-zero l)
  count_gap (suc n) place l e =
      ⊎_elim
      (λ same. omega (arith, count_most n, one_free n (ap held (sym same) ∙ e)))
      (λ below. omega (arith, count_gap n place below e, one_most n))
      (below_suc l)

  -- All are held exactly where the lowest free one is none of them.
  all_held : (n : ℕ) → eqb (total n one) n ≡ eqb (lowest n (λ place. not (held place))) n
  all_held n = same_tests (eqb (total n one) n) (eqb found n) there back
    where
      free : ℕ → Bool
      free place = not (held place)

      found : ℕ
      found = lowest n free

      there : eqb (total n one) n ≡ true → eqb found n ≡ true
      there e =
          eq-eqb found n
          (⊎_elim
          (λ l. absurd (omega (
            arith,
            count_gap n found l (not-true (held found) (lowest_holds n free l)),
            eqb-true (total n one) n e,
          )))
          (λ l. le_antisymm (lowest_le n free) l)
          (less_or_not found n))

      back : eqb found n ≡ true → eqb (total n one) n ≡ true
      back e =
          eq-eqb (total n one) n
          (count_full n (λ place l.
          not-false (held place) (lowest_first n free place (omega (arith, eqb-true found n e)))))

-- "14 no free place, exactly when 64 are held".
pub none_free : (meter : Meter) → eqb (held_frames meter) frame_limit ≡ eqb (free_place meter) frame_limit
none_free meter = all_held (λ place. is_held (frame_at meter place)) frame_limit
