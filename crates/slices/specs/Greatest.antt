-- Words: the law that every `Number` brings, proved for the types that are one: the greatest of some numbers, and of 0, says whether all
-- are 0.
use Rattle.std.specs.Prelude.{ℕ, zero, suc, ◌≤◌, ◌<◌, ◌≡◌, true, List, [], ◌∷◌, ◌==◌, length, cond}
use Rattle.std.proofs.Common.{arith, eq-eqb, sym, ap, ◌∙◌, refl}
use Rattle.std.specs.declared.cmp.Ordering.{Ordering}
use Rattle.std.specs.declared.cmp.Ordering.TheVariants.{Less, Equal, Greater}
use Rattle.std.specs.Ordering.{nat_cmp, ord_max, is_lt, MatchOrdering}
use Rattle.std.specs.Cmp.{ranks}
use borrow.Author.Tests.{eqb-true}
use lib.ListN.{length-replicate}
use lib.Seq.{ext_get_or}
use Rattle.ground.specs.Rows.{at, zeros}
use Rattle.ground.proofs.Lists.{at_zeros}
use Rattle.ground.proofs.Rows.{same_eq, eq_same}
use Rattle.ground.proofs.Tests.{same_tests}
use Rattle.slices.specs.Slices.{is_nothing, greatest_of}

module _ (xs : List ℕ) where
  -- Numbers that are 0 each are nothing.
  pub all_zero : ((i : ℕ) → i < length xs → at xs i ≡ 0) → is_nothing xs ≡ true
  all_zero h =
      eq_same xs (zeros (length xs))
      (ext_get_or 0 xs (zeros (length xs)) (sym (length-replicate (length xs) 0))
      (λ i l. h i l ∙ sym (at_zeros (length xs) i)))

  -- Of nothing each is 0.
  pub zero_at : is_nothing xs ≡ true → (i : ℕ) → at xs i ≡ 0
  zero_at t i = ap (λ (ys : List ℕ). at ys i) (same_eq xs (zeros (length xs)) t) ∙ at_zeros (length xs) i

-- Of two numbers the one that is kept is at least each, and one of them.
kept : (o : Ordering) (a b : ℕ) → MatchOrdering o (b < a) (b ≡ a) (a < b)
    → (a ≤ cond (is_lt o) a b) × (b ≤ cond (is_lt o) a b)
kept Less a b m = (omega arith, omega arith)
kept Equal a b m = (omega arith, omega arith)
kept Greater a b m = (omega arith, omega arith)

one_kept : (o : Ordering) (a b : ℕ) → a ≡ 0 → b ≡ 0 → cond (is_lt o) a b ≡ 0
one_kept Less a b p q = p
one_kept Equal a b p q = q
one_kept Greater a b p q = q

-- The greatest is at least each.
at_least : (most : ℕ) (xs : List ℕ) → most ≤ greatest_of nat_cmp most xs
at_least most [] = omega arith
at_least most (x ∷ xs) =
    omega (arith, (kept (nat_cmp x most) most x (ranks x most)).0, at_least (ord_max nat_cmp most x) xs)

above : (most : ℕ) (xs : List ℕ) (k : ℕ) → k < length xs → at xs k ≤ greatest_of nat_cmp most xs
above most [] k h = absurd (omega arith)
above most (x ∷ xs) zero h =
    omega (arith, (kept (nat_cmp x most) most x (ranks x most)).1, at_least (ord_max nat_cmp most x) xs)
above most (x ∷ xs) (suc k) h = above (ord_max nat_cmp most x) xs k (omega arith)

-- It is 0 where all are.
none : (most : ℕ) (xs : List ℕ) → most ≡ 0 → ((k : ℕ) → k < length xs → at xs k ≡ 0) → greatest_of nat_cmp most xs ≡ 0
none most [] e h = e
none most (x ∷ xs) e h =
    none (ord_max nat_cmp most x) xs (one_kept (nat_cmp x most) most x e (h 0 (omega arith)))
    (λ k l. h (suc k) (omega arith))

pub greatest_tells : (xs : List ℕ) → (greatest_of nat_cmp 0 xs == 0) ≡ is_nothing xs
greatest_tells xs =
    same_tests (greatest_of nat_cmp 0 xs == 0) (is_nothing xs)
    (λ t. all_zero xs (λ k l. omega (arith, above 0 xs k l, eqb-true (greatest_of nat_cmp 0 xs) 0 t)))
    (λ t. eq-eqb (greatest_of nat_cmp 0 xs) 0 (none 0 xs refl (λ k l. zero_at xs t k)))
