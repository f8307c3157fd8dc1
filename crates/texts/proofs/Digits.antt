-- The digits of a number: what the next digit leaves, and how many there are.
use Prim.Native.Nat.{ℕ, zero, suc, ◌+◌, ◌-◌, ◌/◌, ◌%◌, ◌^◌, ◌≤◌, ◌<◌}
use native.Mathlib.Nat.{pow-suc}
use native.Mathlib.Omega.{arith}
use mathlib.Core.List.{List, [], ◌∷◌, ◌++◌, append-nil}
use mathlib.Core.Logic.{⊎_elim}
use mathlib.Core.Path.{◌≡◌, refl, sym, ap, ◌∙◌}
use borrow.Author.Tests.{lt-ltb, le-ltb}
use lib.Dec.{ltb}
use lib.ListN.{length, set, take, drop, length-append, length-set, length-drop, drop_of_length-le}
use lib.Seq.{append_snoc, set_split, drop_at, take_all, length-take-le}
use Rattle.ground.specs.Bytes.{digit_zero}
use Rattle.ground.proofs.Tests.{less_or_not, if_true, if_false}
use Rattle.texts.specs.Texts.{digits_of, decimal_of, long_decimal_of, decimal_room, long_room}

-- Where a single place is left.
digits_last : (number : ℕ) → digits_of zero number ≡ (digit_zero + number % 10) ∷ []
unfolding digits_of
digits_last number = refl

-- A number of one digit.
pub digits_one : (places number : ℕ) → number < 10 → digits_of places number ≡ (digit_zero + number % 10) ∷ []
unfolding digits_of
digits_one zero number l = refl
digits_one (suc places) number l =
    let same : number % 10 ≡ number = omega arith in
    rw same (if_true (ltb number 10) _ _ (lt-ltb number 10 l))

-- A number of more digits.
pub digits_more : (places number : ℕ) → 10 ≤ number
    → digits_of (suc places) number ≡ digits_of places (number / 10) ++ ((digit_zero + number % 10) ∷ [])
unfolding digits_of
digits_more places number l = if_false (ltb number 10) _ _ (le-ltb number 10 l)

-- How many there are, of one digit and of more.
one_long : (places number : ℕ) → number < 10 → length (digits_of places number) ≡ 1
one_long places number l = ap length (digits_one places number l)

more_long : (places number : ℕ) → 10 ≤ number
    → length (digits_of (suc places) number) ≡ length (digits_of places (number / 10)) + 1
more_long places number l = ap length (digits_more places number l) ∙ length-append (digits_of places (number / 10)) _

-- There is one, and there are no more than places.
pub digits_count : (places number : ℕ) → (1 ≤ length (digits_of places number)) × (length (digits_of places number) ≤ suc places)
digits_count zero number = omega (arith, ap length (digits_last number))
digits_count (suc places) number =
    ⊎_elim
    (λ k. omega (arith, one_long (suc places) number k))
    (λ k. omega (arith, more_long places number k, digits_count places (number / 10)))
    (less_or_not number 10)

-- A number below 10 ^ (n + 1) has at most n + 1.
pub digits_few : (places n number : ℕ) → number < 10 ^ suc n → length (digits_of places number) ≤ suc n
digits_few zero n number l = omega (arith, digits_count zero number)
digits_few (suc places) zero number l = omega (arith, one_long (suc places) number l)
digits_few (suc places) (suc n) number l =
    ⊎_elim
    (λ k. omega (arith, one_long (suc places) number k))
    (λ k. omega (arith, more_long places number k, digits_few places n (number / 10) (omega (arith, pow-suc 10 (suc n)))))
    (less_or_not number 10)

-- More places than a number has digits change nothing.
digits_enough : (places longer number : ℕ) → places ≤ longer → number < 10 ^ suc places
    → digits_of longer number ≡ digits_of places number
digits_enough zero longer number h l = digits_one longer number l ∙ sym (digits_one zero number l)
digits_enough (suc places) zero number h l = absurd (omega arith)
digits_enough (suc places) (suc longer) number h l =
    ⊎_elim
    (λ k. digits_one (suc longer) number k ∙ sym (digits_one (suc places) number k))
    (λ k.
    digits_more longer number k
    ∙ ap (λ (digits : List ℕ). digits ++ ((digit_zero + number % 10) ∷ []))
    (digits_enough places longer (number / 10) (omega arith) (omega (arith, pow-suc 10 (suc places))))
    ∙ sym (digits_more places number k))
    (less_or_not number 10)

-- A number of 32 bits has as many digits in either room.
pub long_decimal : (number : ℕ) → number < 10 ^ decimal_room → long_decimal_of number ≡ decimal_of number
long_decimal number l = digits_enough (decimal_room - 1) (long_room - 1) number (omega arith) l

-- Digits that are laid from the end of an array on: what is left of the number comes before them.
pub record Begun (number : ℕ) (digits : List ℕ) (rest first : ℕ) : Type 0 where
  pub below : rest < 10 ^ suc first
  pub all : long_decimal_of number ≡ digits_of first rest ++ drop (suc first) digits

-- At first all is left.
pub begun_none : (number : ℕ) (digits : List ℕ) → number < 10 ^ long_room → length digits ≡ long_room
    → Begun number digits number (long_room - 1)
begun_none number digits l e =
    let none : drop long_room digits ≡ [] = drop_of_length-le digits {i = long_room} (omega arith) in
    record { below = l; all = rw none (sym (append-nil (long_decimal_of number))) }

-- A byte that is stored stands before what follows its place.
drop_stored : (digits : List ℕ) (first byte : ℕ) → first < length digits
    → drop first (set digits first byte) ≡ byte ∷ drop (suc first) digits
drop_stored digits first byte inside =
    rw (set_split digits first byte inside)
    (drop_at (take first digits) _ first (length-take-le first digits (omega arith)))

-- Where more than a digit is left, there is a place before.
pub begun_place : (number : ℕ) (digits : List ℕ) (rest first : ℕ) → Begun number digits rest first → 10 ≤ rest → 1 ≤ first
begun_place number digits rest zero begun l = absurd (omega (arith, begun.below))
begun_place number digits rest (suc first) begun l = omega arith

-- One digit more is laid.
pub begun_more : (number : ℕ) (digits : List ℕ) (rest first : ℕ) → Begun number digits rest first → first < length digits
    → 10 ≤ rest → Begun number (set digits first (digit_zero + rest % 10)) (rest / 10) (first - 1)
begun_more number digits rest zero begun inside l = absurd (omega (arith, begun.below))
begun_more number digits rest (suc first) begun inside l =
    let last : suc first - 1 ≡ first = omega arith in
    let byte = digit_zero + rest % 10 in
    rw last (record {
      below = omega (arith, begun.below, pow-suc 10 (suc first));
      all = begun.all
          ∙ rw (digits_more first rest l, drop_stored digits (suc first) byte inside)
          (append_snoc (digits_of first (rest / 10)) byte (drop (suc (suc first)) digits));
    })

-- The last one is laid, and all that stands from its place on is lent.
pub begun_all : (number : ℕ) (digits : List ℕ) (rest first byte : ℕ) → Begun number digits rest first
    → first < long_room → length digits ≡ long_room → rest < 10 → byte ≡ digit_zero + rest % 10
    → take (long_room - first) (drop first (set digits first byte)) ≡ long_decimal_of number
begun_all number digits rest first byte begun inside e l is =
    take_all (long_room - first) (drop first (set digits first byte)) (simp (length-drop, length-set) (omega arith))
    ∙ drop_stored digits first byte (omega arith)
    ∙ sym (begun.all ∙ rw (digits_one first rest l, ← is))
