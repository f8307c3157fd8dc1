-- What the reader's answer tells of the bytes: where it is a message, they are readable and its fields are theirs; where it
-- is a refusal, they are not readable, and the refusal is 9.
use Prim.Native.Nat.{ℕ, ◌≤◌, ◌<◌}
use native.Mathlib.Omega.{arith}
use mathlib.Core.Bool.{Bool, true, false, not}
use mathlib.Core.List.{List}
use mathlib.Core.Path.{◌≡◌, refl, sym, ap, ◌∙◌}
use borrow.Author.Tests.{eq-eqb}
use lib.ListN.{length, take, length-take}
use Rattle.std.specs.Prelude.{Ok, Err}
use Rattle.ground.specs.Limits.{entry_limit, legal_count}
use Rattle.ground.specs.Refusal.{accepted, ◌gives◌}
use Rattle.ground.specs.Refused.{number_of}
use Rattle.ground.specs.Rows.{at, filled}
use Rattle.ground.specs.Said.{accepted_with}
use Rattle.ground.specs.declared.refusals.Refusal.{Refusal}
use Rattle.rules.specs.Message.{changed_unit, message_of, readable, read_refusal}
use Rattle.ground.proofs.Answers.{number_some}
use Rattle.ground.proofs.Filled.{take_filled}
use Rattle.ground.proofs.Said.{said_accepted}
use Rattle.ground.proofs.Tests.{if_true}
use Rattle.rules.proofs.LegalMessages.{legal_of}
use Rattle.rules.proofs.Written.{readable_of}
use Rattle.message.specs.Kind.{kind_number}
use Rattle.message.specs.Reading.{reading_said, message_values, changes_read}
use Rattle.message.specs.declared.reader.Header.{Header}
use Rattle.message.specs.declared.reader.Reading.{Reading}
use Rattle.message.proofs.OneAnswer.{values_at}
use Rattle.message.proofs.Readings.{Promised, number_said}
use Rattle.message.proofs.RoundTrip.{accepted_reading}

-- What the reader's answer tells of bytes that are a message: its fields are the message's.
pub record Taken (n : ℕ) (bytes : List ℕ) (header : Header) (changes : List ℕ) : Type 0 where
  pub legible : readable n bytes ≡ true
  pub of_kind : kind_number header.kind ≡ (message_of bytes).kind
  pub of_sender : header.sender ≡ (message_of bytes).sender
  pub whole : changes ≡ filled entry_limit (message_of bytes).changes
  pub share : header.entries ≤ length changes
  pub long : header.entries ≡ length (take header.entries changes)
  pub part : take header.entries changes ≡ (message_of bytes).changes
  pub units : (i : ℕ) → i < length (take header.entries changes) → changed_unit (at (take header.entries changes) i) < n

module _ (n : ℕ) (bytes : List ℕ) (reading : Reading) (read : Promised n bytes reading) where
  -- A message was taken.
  pub taken : (header : Header) → reading.answer ≡ Ok header → Taken n bytes header reading.changes
  unfolding changes_read
  taken header a =
      let m = message_of bytes in
      let says : reading_said (Ok header) ≡ _ = ap reading_said (sym a) ∙ read.0 in
      let none : read_refusal n bytes ≡ accepted = sym (number_said (Ok header) _ _ says) in
      let values : reading_said (Ok header) ≡ accepted_with (message_values m) = says ∙ said_accepted _ _ none in
      let legible = (accepted_reading n bytes none).1 in
      let whole : reading.changes ≡ filled entry_limit m.changes = read.1 ∙ if_true _ _ _ (eq-eqb _ accepted none) in
      let e : header.entries ≡ length m.changes = values_at 2 values in
      let legal = legal_of n m (readable_of n bytes legible).legal in
      let part : take header.entries reading.changes ≡ m.changes =
      ap (take header.entries) whole ∙ take_filled entry_limit m.changes header.entries (sym e) in
      record {
        legible = legible;
        of_kind = values_at 0 values;
        of_sender = values_at 1 values;
        whole = whole;
        share = omega (arith, e, ap length part, length-take header.entries reading.changes);
        long = e ∙ ap length (sym part);
        part = part;
        units = rw part (λ i l. (legal.each i l).unit);
      }

  -- With a legal count, bytes that the reader refuses are not readable, and 9 is what is passed on and no other number.
  module _ (count : legal_count n ≡ true) (refusal : Refusal) (a : reading.answer ≡ Err refusal) where
    refused : number_of refusal ≡ (not (readable n bytes) gives 9)
    refused = number_said (Err refusal) _ _ (ap reading_said (sym a) ∙ read.0) ∙ rw count

    pub unread : readable n bytes ≡ false
    unread = go (readable n bytes) refl
      where
        go : (t : Bool) → readable n bytes ≡ t → readable n bytes ≡ false
        go true t = absurd (number_some refusal (refused ∙ rw t))
        go false t = t

    pub passed_on : number_of refusal ≡ 9
    passed_on = refused ∙ rw unread
