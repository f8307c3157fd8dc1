-- What is printed of a number is a decimal, and is read as that number.
use Prim.Native.Nat.{ℕ, zero, suc, ◌+◌, ◌-◌, ◌*◌, ◌/◌, ◌%◌, ◌^◌, ◌≤◌, ◌<◌}
use native.Mathlib.Nat.{pow-suc, le_refl, not-suc-le-zero}
use native.Mathlib.Omega.{arith}
use mathlib.Core.Bool.{true, not, ◌||◌}
use mathlib.Core.List.{List, [], ◌∷◌, ◌++◌}
use mathlib.Core.Logic.{⊎_elim}
use mathlib.Core.Path.{◌≡◌, refl, sym, ap}
use borrow.Author.Tests.{eq-eqb, ne_eqb, le-leb, lt-ltb}
use lib.Dec.{eqb, ltb, leb}
use lib.ListN.{length, length-append, get_or-append}
use lib.Seq.{get_or_at}
use Rattle.ground.specs.Bytes.{digit_zero}
use Rattle.ground.specs.Rows.{at}
use Rattle.ground.proofs.Rows.{below_suc, every_of}
use Rattle.ground.proofs.Tests.{both_of, either_left, either_right, not_of_false, less_or_not}
use Rattle.lines.specs.Words.{digit_limit, is_digit, is_decimal, value_to, value_of}
use Rattle.lines.proofs.Decimals.{Digit, value_more, value_none}
use Rattle.texts.specs.Texts.{decimal_room, digits_of, decimal_of, long_room, long_decimal_of}
use Rattle.texts.proofs.Digits.{digits_one, digits_more, digits_count, digits_few}

-- The number of the first digits is the same whatever follows them.
value_front : (word more : List ℕ) (i : ℕ) → i ≤ length word → value_to (word ++ more) i ≡ value_to word i
value_front word more zero l = omega (arith, value_none (word ++ more), value_none word)
value_front word more (suc i) l =
    omega (
      arith,
      value_more (word ++ more) i,
      value_more word i,
      value_front word more i (omega arith),
      get_or-append word more 0 i l,
    )

-- The number of a word with one digit more.
value_last : (word : List ℕ) (c : ℕ) → value_of (word ++ (c ∷ [])) ≡ value_of word * 10 + (c - digit_zero)
value_last word c =
    let longer : length (word ++ (c ∷ [])) ≡ suc (length word) = omega (arith, length-append word (c ∷ [])) in
    let front = value_front word (c ∷ []) (length word) (le_refl (length word)) in
    rw (longer, value_more) (omega (arith, get_or_at word c [] 0 (length word) refl))

-- A word that is read as a number: digits, the first of which is not 0 but for the number 0.
record Reads (number : ℕ) (word : List ℕ) : Type 0 where
  pub value : value_of word ≡ number
  pub digits : (i : ℕ) → i < length word → Digit (at word i)
  pub leading : 0 < number → digit_zero < at word 0

-- A digit behind what is read of the others.
reads_last : (number : ℕ) (front : List ℕ) → value_of front ≡ number / 10
    → ((i : ℕ) → i < length front → Digit (at front i))
    → (0 < number → digit_zero < at (front ++ ((digit_zero + number % 10) ∷ [])) 0)
    → Reads number (front ++ ((digit_zero + number % 10) ∷ []))
reads_last number front value digits leading =
    let last = digit_zero + number % 10 in
    record {
      value = omega (arith, value_last front last);
      digits = λ i l.
          ⊎_elim
          (λ e. rw (get_or_at front last [] 0 i (sym e)) (omega arith, omega arith))
          (λ k. rw (get_or-append front (last ∷ []) 0 i k) (digits i k))
          (below_suc (omega (arith, length-append front (last ∷ []))));
      leading = leading;
    }

-- A single digit, and one behind others.
reads_one : (places number : ℕ) → number < 10 → Reads number (digits_of places number)
reads_one places number l =
    rw (digits_one places number l)
    (reads_last number [] (omega (arith, value_none [])) (λ i k. absurd (not-suc-le-zero k)) (λ some. omega arith))

reads_more : (places number : ℕ) → 10 ≤ number → Reads (number / 10) (digits_of places (number / 10))
    → Reads number (digits_of (suc places) number)
reads_more places number l front =
    let word = digits_of places (number / 10) in
    rw (digits_more places number l)
    (reads_last number word front.value front.digits (λ some.
    rw (get_or-append word _ 0 0 (digits_count places (number / 10)).0) (front.leading (omega arith))))

-- So the digits of a number that has no more of them than places are read as it.
reads_digits : (places number : ℕ) → number < 10 ^ suc places → Reads number (digits_of places number)
reads_digits zero number l = reads_one zero number l
reads_digits (suc places) number l =
    ⊎_elim
    (reads_one (suc places) number)
    (λ k. reads_more places number k (reads_digits places (number / 10) (omega (arith, pow-suc 10 (suc places)))))
    (less_or_not number 10)

-- What is printed of a number is read as that number.
pub decimal_value : (number : ℕ) → number < 10 ^ decimal_room → value_of (decimal_of number) ≡ number
decimal_value number l = (reads_digits (decimal_room - 1) number l).value

-- So is what is printed of a figure, which may pass 32 bits.
pub figure_value : (number : ℕ) → number < 10 ^ long_room → value_of (long_decimal_of number) ≡ number
figure_value number l = (reads_digits (long_room - 1) number l).value

-- What is printed of a number below 10 ^ digitLimit is a decimal: not too many digits, without leading zeros.
pub decimal_printed : (number : ℕ) → number < 10 ^ digit_limit → is_decimal (decimal_of number) ≡ true
unfolding is_decimal
decimal_printed number l =
    simp (
      le-leb 1 (length word) (digits_count (decimal_room - 1) number).0,
      le-leb (length word) digit_limit (digits_few (decimal_room - 1) (digit_limit - 1) number l),
      leading,
      every_of (length word) (λ i. is_digit (at word i)) (λ i k. digit i (reads.digits i k)),
    )
  where
    word : List ℕ
    word = decimal_of number

    reads : Reads number word
    reads = reads_digits (decimal_room - 1) number (omega arith)

    digit : (i : ℕ) → Digit (at word i) → is_digit (at word i) ≡ true
    digit i d =
        both_of (leb digit_zero (at word i)) (ltb (at word i) (digit_zero + 10))
        (le-leb digit_zero (at word i) d.0) (lt-ltb (at word i) (digit_zero + 10) d.1)

    leading : (eqb (length word) 1 || not (eqb (at word 0) digit_zero)) ≡ true
    leading =
        ⊎_elim
        (λ k. either_left (eqb (length word) 1) _ (eq-eqb (length word) 1 (ap length (digits_one (decimal_room - 1) number k))))
        (λ k.
        let first : digit_zero < at word 0 = reads.leading (omega arith) in
        either_right (eqb (length word) 1) _ (not_of_false _ (ne_eqb (at word 0) digit_zero (λ e. omega arith))))
        (less_or_not number 10)
