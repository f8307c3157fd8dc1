-- What follows a command's name, read word by word: the decimals read so far, and what is left, which decides about more.
use Prim.Native.Nat.{ℕ, zero, suc, ◌+◌, ◌-◌, ◌≤◌, ◌<◌}
use native.Mathlib.Nat.{not-suc-le-zero, zero-add}
use native.Mathlib.Numerals.{add-one}
use native.Mathlib.Omega.{arith}
use mathlib.Core.Bool.{true, false, ◌&&◌}
use mathlib.Core.List.{List}
use mathlib.Core.Logic.{⊎_elim}
use mathlib.Core.Path.{◌≡◌, refl, sym, ap, ◌∙◌}
use borrow.Author.Tests.{eq-eqb, ne_eqb, le-leb, lt-leb}
use lib.Dec.{eqb}
use lib.ListN.{length, set, take, drop, length-drop}
use lib.Seq.{drop-drop, get_or-set_same, get_or-set_other}
use Rattle.ground.specs.Rows.{at}
use Rattle.ground.proofs.Parts.{to_end}
use Rattle.ground.proofs.Rows.{below_suc}
use Rattle.ground.proofs.Tests.{less_or_not}
use Rattle.lines.specs.Commands.{is_arguments, argument}
use Rattle.lines.specs.Following.{argument_limit}
use Rattle.lines.specs.Words.{word_end, first_word, after_word, is_decimal, value_of}
use Rattle.lines.proofs.Words.{first_lent}

-- What is lent of a list from a place on.
abbrev pub lent : (rest : List ℕ) (from : ℕ) → List ℕ
lent rest from = take (length rest - from) (drop from rest)

-- Decimals are read that use some bytes: those are not all, and are listed; what is left decides about the others.
pub record Read (rest list : List ℕ) (count used : ℕ) : Type 0 where
  pub high : count ≤ argument_limit
  pub few : (k : ℕ) → k < count → is_arguments k rest ≡ false
  pub more : (k : ℕ) → is_arguments (count + k) rest ≡ is_arguments k (drop used rest)
  pub later : (k : ℕ) → argument (count + k) rest ≡ argument k (drop used rest)
  pub listed : (i : ℕ) → i < count → at list i ≡ argument i rest

-- At first nothing is read.
pub read_none : (rest list : List ℕ) → Read rest list 0 0
read_none rest list =
    record {
      high = omega arith;
      few = λ k l. absurd (not-suc-le-zero l);
      more = λ k. rw zero-add;
      later = λ k. rw zero-add;
      listed = λ i l. absurd (not-suc-le-zero l);
    }

-- No decimals follow where something is left.
none_left : (left : List ℕ) → 1 ≤ length left → is_arguments 0 left ≡ false
unfolding is_arguments
none_left left h = ne_eqb (length left) 0 (λ e. omega arith)

-- Where nothing is left, none follow, and so those before are all.
all_read : (left : List ℕ) (count k : ℕ) → length left ≡ 0 → is_arguments k left ≡ eqb count (count + k)
unfolding is_arguments
all_read left count zero e = eq-eqb (length left) 0 e ∙ sym (eq-eqb count (count + 0) (omega arith))
all_read left count (suc k) e =
    simp (lt-leb 1 (length left) (omega arith), ne_eqb count (count + suc k) (λ q. omega arith))

-- One more than k follow where the first word behind the space is a decimal and k follow it.
first_more : (left : List ℕ) (k : ℕ) → 1 ≤ length left
    → is_arguments (suc k) left ≡ (is_decimal (first_word (drop 1 left)) && is_arguments k (after_word (drop 1 left)))
unfolding is_arguments
first_more left k h = simp (le-leb 1 (length left) h)

-- The number of the first word, and those of the others.
argument_first : (left : List ℕ) → argument 0 left ≡ value_of (first_word (drop 1 left))
unfolding argument
argument_first left = refl

argument_later : (left : List ℕ) (k : ℕ) → argument (suc k) left ≡ argument k (after_word (drop 1 left))
unfolding argument
argument_later left k = refl

module _ (rest list : List ℕ) (count used : ℕ) (read : Read rest list count used) where
  -- Whether k follow, from what is left.
  told : (c : ℕ) → count ≤ c → ((k : ℕ) → count + k ≤ argument_limit → is_arguments k (drop used rest) ≡ eqb c (count + k))
      → (k : ℕ) → k ≤ argument_limit → is_arguments k rest ≡ eqb c k
  told c low left k h =
      ⊎_elim
      (λ l. read.few k l ∙ sym (ne_eqb c k (λ e. omega arith)))
      (λ l.
      let e : count + (k - count) ≡ k = omega arith in
      rw e at (read.more (k - count) ∙ left (k - count) (omega arith)))
      (less_or_not k count)

  -- Where nothing is left, those read are all.
  pub told_all : length rest ≤ used → (k : ℕ) → k ≤ argument_limit → is_arguments k rest ≡ eqb count k
  told_all done =
      told count (omega arith) (λ k h. all_read (drop used rest) count k (omega (arith, length-drop used rest)))

  -- What is left begins with a space.
  module _ (inside : used < length rest) where
    left_some : 1 ≤ length (drop used rest)
    left_some = omega (arith, length-drop used rest)

    -- As many as a command has, and something is left.
    pub told_many : count ≡ argument_limit → (k : ℕ) → k ≤ argument_limit → is_arguments k rest ≡ false
    told_many full k h =
        told (suc argument_limit) (omega arith) (λ k h.
        let none : k ≡ 0 = omega arith in
        rw none (none_left (drop used rest) left_some ∙ sym (ne_eqb (suc argument_limit) (count + 0) (λ e. omega arith)))) k h
        ∙ ne_eqb (suc argument_limit) k (λ e. omega arith)

    module _ (end : ℕ) (e : end ≡ word_end (lent rest (used + 1))) where
      -- The word behind it, and what follows that.
      word_is : first_word (drop 1 (drop used rest)) ≡ take end (lent rest (used + 1))
      word_is = rw (drop-drop 1 used rest) (sym (first_lent _ end e ∙ ap first_word (to_end rest (used + 1))))

      after_is : after_word (drop 1 (drop used rest)) ≡ drop (used + (1 + end)) rest
      after_is =
          let far : used + 1 + end ≡ used + (1 + end) = omega arith in
          let same : lent rest (used + 1) ≡ drop (used + 1) rest = to_end rest (used + 1) in
          rw (drop-drop 1 used rest, ← same, ← e, same, drop-drop end (used + 1) rest, far)

      -- Whether one more than k are left.
      left_more : (k : ℕ) → is_arguments (suc k) (drop used rest)
          ≡ (is_decimal (take end (lent rest (used + 1))) && is_arguments k (drop (used + (1 + end)) rest))
      left_more k = rw (← word_is, ← after_is) (first_more (drop used rest) k left_some)

      -- A word that is no decimal.
      pub told_bad : is_decimal (take end (lent rest (used + 1))) ≡ false
          → (k : ℕ) → k ≤ argument_limit → is_arguments k rest ≡ false
      told_bad bad k h =
          told (suc argument_limit) (omega (arith, read.high)) (λ k h.
          none k ∙ sym (ne_eqb (suc argument_limit) (count + k) (λ q. omega arith))) k h
          ∙ ne_eqb (suc argument_limit) k (λ e. omega arith)
        where
          none : (k : ℕ) → is_arguments k (drop used rest) ≡ false
          none zero = none_left (drop used rest) left_some
          none (suc k) = rw bad at (left_more k)

      -- A decimal more is read.
      pub read_more : is_decimal (take end (lent rest (used + 1))) ≡ true → count < argument_limit → count < length list
          → Read rest (set list count (value_of (take end (lent rest (used + 1))))) (count + 1) (used + (1 + end))
      read_more good below room =
          record {
            high = omega arith;
            few = λ k l. ⊎_elim (λ q. rw q here) (read.few k) (below_suc (rw add-one at l));
            more = λ k. rw (behind k) (read.more (suc k) ∙ rw good at (left_more k));
            later = λ k. rw (behind k, ← after_is) (read.later (suc k) ∙ argument_later (drop used rest) k);
            listed = λ i l.
                ⊎_elim
                (λ q. rw q (get_or-set_same list count _ 0 room ∙ sym number))
                (λ k. get_or-set_other list count i _ 0 (λ q. omega arith) ∙ read.listed i k)
                (below_suc (rw add-one at l));
          }
        where
          at_end : count + 0 ≡ count
          at_end = omega arith

          behind : (k : ℕ) → count + 1 + k ≡ count + suc k
          behind k = omega arith

          here : is_arguments count rest ≡ false
          here = rw at_end at (read.more 0 ∙ none_left (drop used rest) left_some)

          number : argument count rest ≡ value_of (take end (lent rest (used + 1)))
          number = rw at_end at (read.later 0 ∙ argument_first (drop used rest) ∙ ap value_of word_is)
