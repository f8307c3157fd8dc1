-- The units in a set, rising, and a loop that halves the set and meets them in that order.
use Prim.Native.Nat.{ℕ, zero, suc, ◌+◌, ◌/◌, ◌%◌, ◌^◌, ◌≤◌, ◌<◌}
use native.Mathlib.Nat.{add-zero, one-le-pow, div-one}
use native.Mathlib.Nat.{not-suc-le-zero, lt-suc_self}
use native.Mathlib.Numerals.{add-one}
use native.Mathlib.Omega.{arith}
use mathlib.Core.Bool.{Bool, true, false}
use mathlib.Core.List.{List, [], ◌∷◌, ◌++◌, append-nil, append_assoc}
use mathlib.Core.Logic.{◌≢◌, ⊎_elim}
use mathlib.Core.Path.{◌≡◌, refl, sym, ap, ap₂, ◌∙◌}
use borrow.Author.Tests.{eq-eqb, ne_eqb, eqb-true, eqb-false}
use lib.Dec.{eqb}
use lib.ListN.{length, length-append}
use lib.Seq.{get_or_at}
use Rattle.std.specs.Prelude.{if◌then◌else◌}
use Rattle.ground.specs.Rows.{at, rising, bits, is_in}
use Rattle.ground.proofs.Bits.{in_bits, halved}
use Rattle.ground.proofs.Choices.{by_choice}
use Rattle.ground.proofs.Lists.{Under, under_append}
use Rattle.ground.proofs.Rows.{below_suc}
use Rattle.paths.specs.Tracing.{units_in}

-- Tests that agree below n hold of the same units.
pub rising_ext : (n : ℕ) (p q : ℕ → Bool) → ((i : ℕ) → i < n → p i ≡ q i) → rising n p ≡ rising n q
rising_ext zero p q h = refl
rising_ext (suc n) p q h =
    ap₂ (λ (xs : List ℕ) (b : Bool). xs ++ (if b then n ∷ [] else []))
    (rising_ext n p q (λ i l. h i (omega arith)))
    (h n (lt-suc_self n))

-- The units in a set are those of which its test holds.
pub units_of_bits : (n : ℕ) (p : ℕ → Bool) → units_in n (bits n p) ≡ rising n p
units_of_bits n p = rising_ext n (is_in (bits n p)) p (in_bits n p)

-- A test holds of no unit exactly where its set is 0.
pub none_alike : (n : ℕ) (p : ℕ → Bool) → eqb (length (rising n p)) 0 ≡ eqb (bits n p) 0
none_alike zero p = refl
none_alike (suc n) p = go (p n) (none_alike n p)
  where
    go : (b : Bool) → eqb (length (rising n p)) 0 ≡ eqb (bits n p) 0
        → eqb (length (rising n p ++ (if b then n ∷ [] else []))) 0 ≡ eqb (bits n p + (if b then 2 ^ n else 0)) 0
    go true e =
        ne_eqb (length (rising n p ++ (n ∷ []))) 0 (λ z. omega (arith, length-append (rising n p) (n ∷ [])))
        ∙ sym (ne_eqb (bits n p + 2 ^ n) 0 (λ z. omega (arith, one-le-pow n 2 (omega arith))))
    go false e = rw (append-nil, add-zero) e

-- Each unit is below m, where the count is.
pub rising_under : (m n : ℕ) (p : ℕ → Bool) → 0 < m → n ≤ m → Under m (rising n p)
rising_under m zero p z h = λ i. z
rising_under m (suc n) p z h =
    under_append m (rising n p) (if p n then n ∷ [] else []) (rising_under m n p z (omega arith)) (last (p n))
  where
    last : (b : Bool) → Under m (if b then n ∷ [] else [])
    last true zero = h
    last true (suc i) = z
    last false i = z

-- The units below k come first, and then k, where it is one.
rising_split : (n : ℕ) (p : ℕ → Bool) (k : ℕ) → k < n → p k ≡ true
    → (more : List ℕ) × (rising n p ≡ rising k p ++ k ∷ more)
rising_split zero p k l e = absurd (not-suc-le-zero l)
rising_split (suc n) p k l e =
    ⊎_elim
    (λ q. let t : p n ≡ true = sym (ap p q) ∙ e in ([], rw (t, q)))
    (λ s. later (rising_split n p k s e))
    (below_suc l)
  where
    later : (more : List ℕ) × (rising n p ≡ rising k p ++ k ∷ more)
        → (more : List ℕ) × (rising (suc n) p ≡ rising k p ++ k ∷ more)
    later found = (found.0 ++ (if p n then n ∷ [] else []), rw found.1 (append_assoc (rising k p) _ _))

-- So unit k stands at the place that the units below it leave.
pub rising_place : (n : ℕ) (p : ℕ → Bool) (k : ℕ) → k < n → p k ≡ true → at (rising n p) (length (rising k p)) ≡ k
rising_place n p k l e =
    let found = rising_split n p k l e in
    rw found.1 (get_or_at (rising k p) k found.0 0 (length (rising k p)) refl)

-- What a loop over a set knows once it has passed the units below k: what is left of the set, and how many were in it.
pub record Passed (set k rest number : ℕ) : Type 0 where
  pub left : rest ≡ set / 2 ^ k
  pub few : number ≤ k
  pub met : number ≡ length (units_in k set)

-- At its start.
pub none_passed : (set : ℕ) → Passed set 0 set 0
none_passed set = record { left = sym (div-one set); few = omega arith; met = refl }

-- One turn: the set is halved, and the lowest digit counted.
pub one_passed : {set k rest number next : ℕ} → Passed set k rest number → next ≡ number + rest % 2
    → Passed set (k + 1) (rest / 2) next
one_passed {set} {k} {rest} {number} {next} c e =
    record {
      left = ap (λ (r : ℕ). r / 2) c.left ∙ halved set k;
      few = omega (arith, c.few);
      met = sym (rw add-one (length-append (units_in k set) _ ∙ omega (arith, c.met, last)));
    }
  where
    lowest : rest % 2 ≡ set / 2 ^ k % 2
    lowest = ap (λ (r : ℕ). r % 2) c.left

    last : length (if is_in set k then k ∷ [] else []) ≡ rest % 2
    last =
        by_choice (λ (xs : List ℕ). length xs ≡ rest % 2) (is_in set k) (k ∷ []) []
        (λ t. omega (arith, eqb-true (set / 2 ^ k % 2) 1 t, lowest))
        (λ t. let d : set / 2 ^ k % 2 ≢ 1 = eqb-false (set / 2 ^ k % 2) 1 t in omega (arith, lowest))

-- A unit whose digit is 1 stands at the place that the units passed leave.
pub met_at : {set k rest number : ℕ} → Passed set k rest number → (n : ℕ) → k < n → rest % 2 ≡ 1
    → k ≡ at (units_in n set) number
met_at {set} {k} {rest} {number} c n l e =
    sym
    (ap (at (units_in n set)) c.met
    ∙ rising_place n (is_in set) k l (eq-eqb (set / 2 ^ k % 2) 1 (ap (λ (r : ℕ). r % 2) (sym c.left) ∙ e)))
