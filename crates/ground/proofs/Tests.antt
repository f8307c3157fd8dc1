-- What a test tells: that it is true or false and not both, what two tests joined tell of each, and which branch a
-- choice by a test takes.
use mathlib.Core.Bool.{Bool, cond, true, false, not, ◌&&◌, ◌||◌, true≢false, false≢true}
use mathlib.Core.Logic.{◌⊎◌, inl, inr, ⊎_elim, ◌≢◌}
use mathlib.Core.Path.{◌≡◌, refl, sym}
use Prim.Native.Nat.{ℕ, ◌≤◌, ◌<◌}
use lib.Dec.{eqb, ltb}
use borrow.Author.Tests.{eqb-true, eqb-false, ltb-true, ltb-false}

-- A test that is not true is false.
pub not_yes : (a : Bool) → (a ≡ true → ⊥) → a ≡ false
not_yes true h = absurd (h refl)
not_yes false h = refl

-- A test is not both true and false.
pub not_both : (a : Bool) → a ≡ true → a ≡ false → ⊥
not_both true p q = true≢false q
not_both false p q = false≢true p

-- A test is true or false.
pub yes_or_no : (a : Bool) → (a ≡ true) ⊎ (a ≡ false)
yes_or_no true = inl refl
yes_or_no false = inr refl

-- Tests of which each holds where the other does are the same.
pub same_tests : (a b : Bool) → (a ≡ true → b ≡ true) → (b ≡ true → a ≡ true) → a ≡ b
same_tests true b f g = sym (f refl)
same_tests false true f g = g refl
same_tests false false f g = refl

-- Two numbers are equal or not.
pub equal_or_not : (a b : ℕ) → (a ≡ b) ⊎ (a ≢ b)
equal_or_not a b = ⊎_elim (λ e. inl (eqb-true a b e)) (λ e. inr (eqb-false a b e)) (yes_or_no (eqb a b))

-- Of two numbers the first is below the second or not.
pub less_or_not : (a b : ℕ) → (a < b) ⊎ (b ≤ a)
less_or_not a b = ⊎_elim (λ e. inl (ltb-true a b e)) (λ e. inr (ltb-false a b e)) (yes_or_no (ltb a b))

-- Two tests that hold together each hold.
pub both : (a b : Bool) → a && b ≡ true → (a ≡ true) × (b ≡ true)
both true b e = (refl, e)
both false b e = absurd (false≢true e)

-- Two tests that each hold hold together.
pub both_of : (a b : Bool) → a ≡ true → b ≡ true → a && b ≡ true
both_of true b p q = q
both_of false b p q = p

-- Of two tests of which one holds, the first or the second holds.
pub either : (a b : Bool) → a || b ≡ true → (a ≡ true) ⊎ (b ≡ true)
either true b e = inl refl
either false b e = inr e

-- Where the first of two tests holds, one of them does.
pub either_left : (a b : Bool) → a ≡ true → a || b ≡ true
either_left true b p = refl
either_left false b p = absurd (false≢true p)

-- Where the second of two tests holds, one of them does.
pub either_right : (a b : Bool) → b ≡ true → a || b ≡ true
either_right true b q = refl
either_right false b q = q

-- Of two tests of which none holds, each is false.
pub neither : (a b : Bool) → a || b ≡ false → (a ≡ false) × (b ≡ false)
neither true b e = absurd (true≢false e)
neither false b e = (refl, e)

-- Of two tests that are both false none holds.
pub neither_of : (a b : Bool) → a ≡ false → b ≡ false → a || b ≡ false
neither_of true b p q = p
neither_of false b p q = q

-- The negation of a test that is false is true.
pub not_of_false : (a : Bool) → a ≡ false → not a ≡ true
not_of_false true p = absurd (true≢false p)
not_of_false false p = refl

-- A choice by a test that is true is its first branch.
pub if_true {ℓ} : {A : Type ℓ} (t : Bool) (a b : A) → t ≡ true → cond t a b ≡ a
if_true true a b e = refl
if_true false a b e = absurd (false≢true e)

-- A choice by a test that is false is its second branch.
pub if_false {ℓ} : {A : Type ℓ} (t : Bool) (a b : A) → t ≡ false → cond t a b ≡ b
if_false true a b e = absurd (true≢false e)
if_false false a b e = refl

-- A test that fails makes the two of them fail.
pub and_false : (a b : Bool) → b ≡ false → a && b ≡ false
and_false true b e = e
and_false false b e = refl

pub and_no : (a : Bool) → a && false ≡ false
and_no a = and_false a false refl
