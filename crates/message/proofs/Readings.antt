-- What is promised of a reading, case by case: which test that the reader makes leads to which answer.
use Prim.Native.Nat.{ℕ, ◌+◌, ◌-◌, ◌*◌, ◌≤◌}
use native.Mathlib.Omega.{arith}
use mathlib.Core.Bool.{Bool, true, false, not, ◌&&◌}
use mathlib.Core.List.{List}
use mathlib.Core.Logic.{◌≢◌}
use mathlib.Core.Path.{◌≡◌, refl, sym, ap, ◌∙◌}
use borrow.Author.Tests.{eqb-true, eq-eqb, ne_eqb, lt-leb}
use lib.Dec.{eqb, leb}
use lib.ListN.{length, take}
use Rattle.std.specs.Prelude.{Result, Ok, Err, if◌then◌else◌}
use Rattle.ground.specs.Limits.{legal_count, entry_limit}
use Rattle.ground.specs.Refusal.{accepted, ◌gives◌}
use Rattle.ground.specs.Refused.{number_of}
use Rattle.ground.specs.Rows.{at, tab, zeros, filled}
use Rattle.ground.specs.Said.{Said, accepted_with, refused_with, said}
use Rattle.ground.specs.declared.refusals.Refusal.{Refusal}
use Rattle.ground.specs.declared.refusals.Refusal.TheVariants.{Message as AgainstTheLayout}
use Rattle.rules.specs.Message.{Message, change_at, message_of, legal_message, readable, read_refusal}
use Rattle.ground.proofs.Answers.{number_some, refusal_first}
use Rattle.ground.proofs.Filled.{take_filled}
use Rattle.ground.proofs.Limits.{count_legal}
use Rattle.ground.proofs.Rows.{length_tab}
use Rattle.ground.proofs.Said.{said_refused}
use Rattle.ground.proofs.Tests.{both, and_no, if_true, if_false}
use Rattle.message.specs.Fields.{fields_of}
use Rattle.message.specs.Kind.{kind_number}
use Rattle.message.specs.Reading.{reading_said, message_values, changes_read, is_framed, Framed}
use Rattle.message.specs.declared.kind.Kind.{Kind}
use Rattle.message.specs.declared.reader.Header.{Header}
use Rattle.message.specs.declared.reader.Reading.{Reading}
use Rattle.message.proofs.KindNumbers.{kindless}

-- What the reader promises of a reading, and what it is in a refusal.
abbrev pub Promised : (n : ℕ) (bytes : List ℕ) → Reading → Type 0
Promised n bytes reading =
    (reading_said reading.answer ≡ said (read_refusal n bytes) (message_values (message_of bytes)))
    × (reading.changes ≡ changes_read n bytes)

abbrev pub Alone : Refusal → Reading → Type 0
Alone refusal reading = (reading_said reading.answer ≡ refused_with (number_of refusal)) × (reading.changes ≡ zeros entry_limit)

-- The number in what is to be said is the refusal's.
said_number : (refusal : ℕ) (values : List ℕ) → (said refusal values).number ≡ refusal
unfolding said
said_number refusal values = go (eqb refusal accepted) refl
  where
    go : (t : Bool) → eqb refusal accepted ≡ t → (if t then accepted_with values else refused_with refusal).number ≡ refusal
    go true e = sym (eqb-true refusal accepted e)
    go false e = refl

pub number_said : (answer : Result Header Refusal) (refusal : ℕ) (values : List ℕ) → reading_said answer ≡ said refusal values
    → (reading_said answer).number ≡ refusal
number_said answer refusal values e = ap (λ (s : Said). s.number) e ∙ said_number refusal values

module _ (n : ℕ) (bytes : List ℕ) where
  -- A refusal alone is as promised where it is the reader's.
  pub as_refused : (refusal : Refusal) (reading : Reading) → Alone refusal reading → number_of refusal ≡ read_refusal n bytes
      → Promised n bytes reading
  unfolding changes_read
  as_refused refusal reading p e =
      let some : read_refusal n bytes ≢ accepted = λ none. number_some refusal (e ∙ none) in
      (p.0 ∙ ap refused_with e ∙ sym (said_refused _ _ some), p.1 ∙ sym (if_false _ _ _ (ne_eqb _ accepted some)))

  -- A count that is not legal; bytes that are not framed.
  pub bad_count : (refusal : Refusal) → number_of refusal ≡ (not (legal_count n) gives 1) → number_of refusal ≡ read_refusal n bytes
  bad_count refusal e = refusal_first refusal _ _ e

  pub not_readable : legal_count n ≡ true → readable n bytes ≡ false → 9 ≡ read_refusal n bytes
  not_readable e f = rw (e, f)

  -- Bytes are readable when they are framed and hold legal fields.
  readable_by : readable n bytes ≡ is_framed bytes && legal_message n (message_of bytes)
  unfolding readable is_framed
  readable_by = refl

  pub not_framed : legal_count n ≡ true → is_framed bytes ≡ false → 9 ≡ read_refusal n bytes
  not_framed e f = not_readable e (readable_by ∙ rw f)

  -- Of framed bytes the fields decide.
  by_fields : Framed n bytes → read_refusal n bytes ≡ (not (legal_message n (message_of bytes)) gives 9)
  by_fields f = rw (count_legal n f.two f.limit, readable_by, f.framed)

  -- As many entries as units are too many.
  pub too_many_entries : Framed n bytes → n ≤ at bytes 3 → read_refusal n bytes ≡ 9
  unfolding legal_message message_of
  too_many_entries f many =
      let two = f.two in
      let e : leb (length (tab (at bytes 3) (change_at bytes (at bytes 3)))) (n - 1) ≡ false =
      rw length_tab (lt-leb (at bytes 3) (n - 1) (omega arith)) in
      by_fields f ∙ rw (e, and_no)

-- Framed bytes have the length that their number of entries asks for.
pub framed_length : (bytes : List ℕ) → is_framed bytes ≡ true → length bytes ≡ 4 + 4 * at bytes 3
unfolding is_framed
framed_length bytes e = eqb-true _ _ (both (eqb (at bytes 0) 1) (eqb (length bytes) (4 + 4 * at bytes 3)) e).1

-- The changes that the reader found, as a part of its array.
module _ (bytes : List ℕ) (entries : ℕ) (changes : List ℕ) (c : changes ≡ filled entry_limit (tab entries (change_at bytes entries))) where
  found_part : take entries changes ≡ tab entries (change_at bytes entries)
  found_part = rw c (take_filled entry_limit _ entries (length_tab entries (change_at bytes entries)))

  pub found_length : entries ≡ length (take entries changes)
  found_length = sym (rw found_part (length_tab entries (change_at bytes entries)))

  -- With what stands before them they are the message.
  module _ (n : ℕ) (e : entries ≡ at bytes 3) where
    found : message_of bytes ≡ fields_of (at bytes 2) (at bytes 1) (take entries changes)
    unfolding message_of
    found = cc found_part

    pub found_answer : Framed n bytes → (answer : Result Header Refusal)
        → reading_said answer
        ≡ said (not (legal_message n (fields_of (at bytes 2) (at bytes 1) (take entries changes))) gives 9) (message_values (fields_of (at bytes 2) (at bytes 1) (take entries changes)))
        → reading_said answer ≡ said (read_refusal n bytes) (message_values (message_of bytes))
    found_answer f answer h =
        h
        ∙ ap (λ (m : Message). said (not (legal_message n m) gives 9) (message_values m)) (sym found)
        ∙ ap (λ (refusal : ℕ). said refusal (message_values (message_of bytes))) (sym (by_fields n bytes f))

    -- Where they are legal, they stand beside the answer.
    pub as_found : (answer : Result Header Refusal) (header : Header) → answer ≡ Ok header
        → reading_said answer ≡ said (read_refusal n bytes) (message_values (message_of bytes))
        → (reading_said answer ≡ said (read_refusal n bytes) (message_values (message_of bytes))) × (changes ≡ changes_read n bytes)
    unfolding changes_read message_of
    as_found answer header a h =
        let none : accepted ≡ read_refusal n bytes = ap (λ (r : Result Header Refusal). (reading_said r).number) (sym a) ∙ number_said answer _ _ h in
        (h, c ∙ rw e (sym (if_true _ _ _ (eq-eqb _ accepted (sym none)))))

-- Where they are not, the refusal is passed on.
pub found_refusal : (n : ℕ) (bytes : List ℕ) (answer : Result Header Refusal) (refusal : Refusal) → answer ≡ Err refusal
    → reading_said answer ≡ said (read_refusal n bytes) (message_values (message_of bytes)) → number_of refusal ≡ read_refusal n bytes
found_refusal n bytes answer refusal a h =
    ap (λ (r : Result Header Refusal). (reading_said r).number) (sym a) ∙ number_said answer _ _ h

-- What stands before the changes, by the kind that was found and the fields' test.
module _ (n : ℕ) (number sender : ℕ) (changes : List ℕ) where
  pub kind_refused : (refusal : Refusal) → refusal ≡ AgainstTheLayout → ((kind : Kind) → kind_number kind ≢ number)
      → refused_with (number_of refusal)
      ≡ said (not (legal_message n (fields_of number sender changes)) gives 9) (message_values (fields_of number sender changes))
  unfolding said
  kind_refused refusal e none = rw (e, kindless n (fields_of number sender changes) none)

  module _ (kind : Kind) (k : kind_number kind ≡ number) where
    pub fields_refused : false ≡ legal_message n (fields_of (kind_number kind) sender changes)
        → refused_with 9
        ≡ said (not (legal_message n (fields_of number sender changes)) gives 9) (message_values (fields_of number sender changes))
    unfolding said
    fields_refused e = rw (← k, ← e)

    pub fields_accepted : true ≡ legal_message n (fields_of (kind_number kind) sender changes)
        → accepted_with (message_values (fields_of (kind_number kind) sender changes))
        ≡ said (not (legal_message n (fields_of number sender changes)) gives 9) (message_values (fields_of number sender changes))
    unfolding said
    fields_accepted e = rw (← k, ← e)
