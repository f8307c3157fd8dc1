-- What the reader with a lent table answers, case by case, and what it leaves there.
use Prim.Native.Nat.{ℕ, ◌+◌, ◌≤◌, ◌<◌}
use native.Mathlib.Omega.{arith}
use mathlib.Core.Bool.{true, false, not}
use mathlib.Core.List.{List, [], ◌∷◌, ◌++◌}
use mathlib.Core.Path.{◌≡◌, ap, ◌∙◌}
use borrow.Rule.Slice.PartMut.{put_mid}
use borrow.Author.Tests.{leb-true, lt-ltb, le-ltb}
use lib.Dec.{ltb, leb}
use lib.ListN.{length, set, drop}
use lib.Seq.{sets-eq, drop-drop}
use Rattle.std.specs.Prelude.{Ok, Err}
use Rattle.ground.specs.Limits.{unit_limit, entry_limit, legal_count}
use Rattle.ground.specs.Refusal.{answer_base, ◌gives◌}
use Rattle.ground.specs.Refused.{number_of}
use Rattle.ground.specs.declared.refusals.Refusal.{Refusal}
use Rattle.rules.specs.Message.{message_of}
use Rattle.ground.proofs.Tests.{both}
use Rattle.rules.proofs.LegalMessages.{legal_of}
use Rattle.rules.proofs.Written.{readable_of}
use Rattle.message.specs.Kind.{kind_number}
use Rattle.message.specs.Numbers.{leading, field_places, laid_fields, read_answer, fields_after}
use Rattle.message.specs.declared.reader.Header.{Header}
use Rattle.message.specs.declared.reader.Reading.{Reading}
use Rattle.message.proofs.Counts.{count_refused}
use Rattle.message.proofs.ReaderAnswers.{Taken, taken, unread, passed_on}
use Rattle.message.proofs.Readings.{Promised}

-- Three stores, and the changes after them.
pub all_laid : (kind sender entries : ℕ) (changes fields : List ℕ) → field_places ≤ length fields
    → put_mid leading entry_limit (set (set (set fields 0 kind) 1 sender) 2 entries) changes
    ≡ laid_fields kind sender entries changes fields
unfolding laid_fields
all_laid kind sender entries changes fields room =
    let led : set (set (set fields 0 kind) 1 sender) 2 entries ≡ kind ∷ sender ∷ entries ∷ drop leading fields =
    sets-eq (kind ∷ sender ∷ entries ∷ []) fields 0 (omega arith) in
    rw led (ap (λ (rest : List ℕ). (kind ∷ sender ∷ entries ∷ changes) ++ rest) (drop-drop entry_limit leading fields))

-- What is refused before the bytes are looked at: a count that is not legal, and then a table that is too short.
module _ (n : ℕ) (bytes fields : List ℕ) where
  pub bad_count : (refusal : Refusal) → number_of refusal ≡ (not (legal_count n) gives 1)
      → (number_of refusal ≡ read_answer n bytes (length fields)) × (fields ≡ fields_after n bytes fields)
  unfolding read_answer fields_after
  bad_count refusal e =
      let illegal = count_refused n refusal e in
      (e ∙ rw illegal, rw illegal)

  module _ (count : legal_count n ≡ true) where
    pub short_table : length fields < field_places
        → (7 ≡ read_answer n bytes (length fields)) × (fields ≡ fields_after n bytes fields)
    unfolding read_answer fields_after
    short_table short =
        let t : ltb (length fields) field_places ≡ true = lt-ltb (length fields) field_places short in
        (rw (count, t), rw (count, t))

    -- What follows from the reader's answer, once the table has room.
    module _ (reading : Reading) (room : field_places ≤ length fields) (read : Promised n bytes reading) where
      roomy : ltb (length fields) field_places ≡ false
      roomy = le-ltb (length fields) field_places room

      -- A message leaves its number of entries, and the table with its fields.
      pub found : (header : Header) → reading.answer ≡ Ok header
          → (answer_base + header.entries ≡ read_answer n bytes (length fields))
          × (laid_fields (kind_number header.kind) header.sender header.entries reading.changes fields ≡ fields_after n bytes fields)
      unfolding read_answer fields_after
      found header a =
          let t : Taken n bytes header reading.changes = taken n bytes reading read header a in
          let e : header.entries ≡ length (message_of bytes).changes = t.long ∙ ap length t.part in
          (rw (count, roomy, t.legible, e), rw (count, roomy, t.legible, t.of_kind, t.of_sender, e, t.whole))

      pub few : (header : Header) → reading.answer ≡ Ok header → header.entries ≤ entry_limit
      few header a =
          let t : Taken n bytes header reading.changes = taken n bytes reading read header a in
          let e : header.entries ≡ length (message_of bytes).changes = t.long ∙ ap length t.part in
          let legal = legal_of n (message_of bytes) (readable_of n bytes t.legible).legal in
          let most = leb-true n unit_limit (both (leb 2 n) (leb n unit_limit) count).1 in
          omega arith

      -- A refusal is passed on, and the table is as it came.
      pub not_found : (refusal : Refusal) → reading.answer ≡ Err refusal
          → (number_of refusal ≡ read_answer n bytes (length fields)) × (fields ≡ fields_after n bytes fields)
      unfolding read_answer fields_after
      not_found refusal a =
          let t = unread n bytes reading read count refusal a in
          (passed_on n bytes reading read count refusal a ∙ rw (count, roomy, t), rw (count, roomy, t))
