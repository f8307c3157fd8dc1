-- Numbers below n that are pairwise distinct are at most n. A list of distinct numbers is built from `alone` by
-- `apart`, which asks that the number added differs from each that is there. `Many P k` hides the list: there are k
-- distinct numbers of which P holds.
use Prim.Native.Nat.{ℕ, zero, suc, ◌≤◌, ◌<◌, zero-le, suc-le-suc}
use native.Mathlib.Nat.{not-suc-le-zero, le_refl}
use native.Mathlib.Omega.{arith}
use mathlib.Core.List.{List, [], ◌∷◌}
use mathlib.Core.Logic.{◌≢◌, ⊎_elim}
use mathlib.Core.Path.{◌≡◌, refl, ap}
use lib.ListN.{length}
use Rattle.ground.specs.Distinct.{Distinct, alone, apart}
use Rattle.ground.specs.Each.{Each, none, one}
use Rattle.ground.proofs.Each.{each_first, each_rest, each_map}
use Rattle.ground.proofs.Rows.{below_suc}

-- Each number of a list is below n.
abbrev pub Below : ℕ → List ℕ → Type 0
Below n xs = Each (λ x. x < n) xs

-- Distinct numbers below suc n, without n: distinct, below n, at most one less, and among them none that was not there.
record Fewer (n : ℕ) (xs : List ℕ) : Type 0 where
  rest : List ℕ
  distinct : Distinct rest
  below : Below n rest
  count : length xs ≤ suc (length rest)
  absent : (a : ℕ) → Each (λ y. a ≢ y) xs → Each (λ y. a ≢ y) rest

-- Where none is n, what is below suc n is below n.
lower : {n x : ℕ} {xs : List ℕ} → x ≡ n → Each (λ y. x ≢ y) xs → Below (suc n) xs → Below n xs
lower e none b = none
lower e (one {x = y} a more) b = one {x = y} (omega (arith, each_first b)) (lower e more (each_rest b))

-- They exist: n is left out where it stands.
fewer : (n : ℕ) {xs : List ℕ} → Distinct xs → Below (suc n) xs → Fewer n xs
fewer n alone b = record { rest = []; distinct = alone; below = none; count = zero-le; absent = λ a e. e }
fewer n (apart {x = x} {xs = xs} a d) b =
    ⊎_elim
    dropped
    (λ l. kept l (fewer n d (each_rest b)))
    (below_suc (each_first b))
  where
    dropped : x ≡ n → Fewer n (x ∷ xs)
    dropped e =
        record {
          rest = xs;
          distinct = d;
          below = lower e a (each_rest b);
          count = le_refl (suc (length xs));
          absent = λ c m. each_rest m;
        }

    kept : x < n → Fewer n xs → Fewer n (x ∷ xs)
    kept l r =
        record {
          rest = x ∷ r.rest;
          distinct = apart (r.absent x a) r.distinct;
          below = one l r.below;
          count = suc-le-suc r.count;
          absent = λ c m. one (each_first m) (r.absent c (each_rest m));
        }

-- Pairwise distinct numbers below n are at most n.
pub pigeonhole : (n : ℕ) {xs : List ℕ} → Distinct xs → Below n xs → length xs ≤ n
pigeonhole zero alone b = zero-le
pigeonhole zero (apart a d) b = absurd (not-suc-le-zero (each_first b))
pigeonhole (suc n) d b =
    let r : Fewer n _ = fewer n d b in
    omega (arith, pigeonhole n r.distinct r.below)

-- There are k distinct numbers of which P holds.
pub record Many (P : ℕ → Type 0) (k : ℕ) : Type 0 where
  pub numbers : List ℕ
  pub distinct : Distinct numbers
  pub each : Each P numbers
  pub count : length numbers ≡ k

-- There are 0 such numbers.
pub many_none : {P : ℕ → Type 0} → Many P 0
many_none = record { numbers = []; distinct = alone; each = none; count = refl }

-- One number more: it differs from each of which P holds, and Q holds of it and of those.
pub many_more : {P Q : ℕ → Type 0} {k : ℕ} (a : ℕ) → Many P k → ((x : ℕ) → P x → a ≢ x) → ((x : ℕ) → P x → Q x) → Q a
    → Many Q (suc k)
many_more a m new keep h =
    record {
      numbers = a ∷ m.numbers;
      distinct = apart (each_map new m.each) m.distinct;
      each = one h (each_map keep m.each);
      count = ap suc m.count;
    }

-- One number of which P holds.
pub many_one : {P : ℕ → Type 0} (a : ℕ) → P a → Many P 1
many_one a h = many_more {P = λ x. ⊥} a many_none (λ x l. absurd l) (λ x l. absurd l) h

-- Where P holds only of numbers below n, it holds of at most n distinct numbers.
pub many_most : {P : ℕ → Type 0} {k : ℕ} (n : ℕ) → ((x : ℕ) → P x → x < n) → Many P k → k ≤ n
many_most n low m = rw m.count at (pigeonhole n m.distinct (each_map low m.each))
