-- Strictly rising units, walked from the first: each is from the one after its predecessor on.
use Prim.Native.Nat.{ℕ, zero, suc, ◌+◌, ◌-◌}
use native.Mathlib.Numerals.{add-one}
use native.Mathlib.Omega.{arith}
use mathlib.Core.Bool.{Bool, true, false, ◌&&◌}
use mathlib.Core.List.{List}
use mathlib.Core.Path.{◌≡◌, refl}
use lib.Dec.{leb-zero, eqb-suc-zero}
use Rattle.ground.specs.Rows.{at}
use Rattle.rules.specs.Message.{changed_unit, body_of, legal_unit, legal_body}
use Rattle.message.specs.Fields.{legal_from}

-- The lowest unit that the change at place i may have.
abbrev pub lowest_at : (changes : List ℕ) (i : ℕ) → ℕ
lowest_at changes zero = 0
lowest_at changes (suc i) = changed_unit (at changes i) + 1

abbrev pub legal_at : (n sender : ℕ) (changes : List ℕ) (i : ℕ) → Bool
legal_at n sender changes i =
    legal_unit n sender changes i && legal_body n (changed_unit (at changes i)) (body_of (at changes i))

suc_sub_one : (i : ℕ) → suc i - 1 ≡ i
suc_sub_one i = omega arith

-- Three tests and one more, in the order in which the code makes them.
regroup : (a b c d : Bool) → a && b && c && d ≡ c && (a && (b && d))
regroup true true true d = refl
regroup true true false d = refl
regroup true false true d = refl
regroup true false false d = refl
regroup false b true d = refl
regroup false b false d = refl

-- A change is legal at its place exactly when it is legal from the lowest unit that it may have.
pub legal-at : (n sender : ℕ) (changes : List ℕ) (i : ℕ)
    → legal_at n sender changes i ≡ legal_from n sender (lowest_at changes i) (at changes i)
unfolding legal_unit legal_from
legal-at n sender changes zero = simp (regroup, leb-zero)
legal-at n sender changes (suc i) = simp (regroup, add-one, eqb-suc-zero, suc_sub_one)

-- What the test from the lowest unit tells of the change at a place.
pub found_at : (n sender : ℕ) (changes : List ℕ) (i : ℕ) {lowest : ℕ} {test : Bool}
    → lowest ≡ lowest_at changes i → test ≡ legal_from n sender lowest (at changes i) → legal_at n sender changes i ≡ test
found_at n sender changes i e t = cc (legal-at n sender changes i)
