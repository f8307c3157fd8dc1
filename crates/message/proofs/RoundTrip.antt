-- Round trips, of the definitions that the contracts of the reader and the writer give: what the writer accepts reads back as
-- itself, and bytes that the reader accepts are written again as the same bytes.
use Prim.Native.Nat.{ℕ}
use mathlib.Core.Bool.{true, false, not}
use mathlib.Core.List.{List, append_assoc}
use mathlib.Core.Path.{◌≡◌, sym, ap, ◌∙◌}
use borrow.Author.Tests.{not-false}
use lib.ListN.{length, take, drop}
use lib.Seq.{take_at, drop_at, length-take-le}
use Rattle.ground.specs.Limits.{legal_count}
use Rattle.ground.specs.Refusal.{accepted, ◌gives◌}
use Rattle.rules.specs.Message.{Message, written, written_length, message_of, readable, read_refusal, no_room, write_refusal}
use Rattle.ground.proofs.Lists.{Under}
use Rattle.ground.proofs.Refusal.{gives_none, otherwise_none}
use Rattle.rules.proofs.Written.{written-length, written_readable, reads_back, readable_of, writes_back}
use Rattle.message.specs.Writing.{frame_after}
use Rattle.message.proofs.Writings.{unrefused, writable}

-- The part of the frame that a message takes.
abbrev pub laid_part : (n : ℕ) → Message → (frame : List ℕ) (offset : ℕ) → List ℕ
laid_part n m frame offset = take (written_length (length m.changes)) (drop offset (frame_after n m frame offset))

-- The part holds the message's bytes, where the writer accepts.
laid-part : (n : ℕ) (m : Message) (frame : List ℕ) (offset : ℕ) → write_refusal n m (length frame) offset ≡ accepted
    → laid_part n m frame offset ≡ written m
unfolding frame_after
laid-part n m frame offset e =
    let before : length (take offset frame) ≡ offset = length-take-le offset frame (writable n m (length frame) offset e).inside in
    rw (e, append_assoc, drop_at (take offset frame) _ offset before)
    (take_at (written m) _ (written_length (length m.changes)) (written-length m))

-- Whatever the writer accepts reads back as itself.
pub written_reads_back : (n : ℕ) (m : Message) (frame : List ℕ) (offset : ℕ) → write_refusal n m (length frame) offset ≡ accepted
    → (read_refusal n (laid_part n m frame offset) ≡ accepted) × (message_of (laid_part n m frame offset) ≡ m)
written_reads_back n m frame offset e =
    let tests = unrefused n m (length frame) offset e in
    rw (laid-part n m frame offset e) (rw (tests.count, written_readable n m tests.fields), reads_back m)

-- Bytes that the reader accepts are readable, and their count is legal.
pub accepted_reading : (n : ℕ) (bytes : List ℕ) → read_refusal n bytes ≡ accepted → (legal_count n ≡ true) × (readable n bytes ≡ true)
accepted_reading n bytes e =
    let none = otherwise_none (not (legal_count n) gives 1) (not (readable n bytes) gives 9) e in (
      not-false (legal_count n) (gives_none (not (legal_count n)) 0 none.0),
      not-false (readable n bytes) (gives_none (not (readable n bytes)) 8 none.1),
    )

-- Their message is accepted by the writer wherever there is room, and gives the same bytes.
module _ (n : ℕ) (bytes : List ℕ) (e : read_refusal n bytes ≡ accepted) (frame : List ℕ) (offset : ℕ) where
  tests : (legal_count n ≡ true) × (readable n bytes ≡ true)
  tests = accepted_reading n bytes e

  pub read_writes : no_room (length frame) offset (length (message_of bytes).changes) ≡ false
      → write_refusal n (message_of bytes) (length frame) offset ≡ accepted
  read_writes room =
      rw (tests.0, room, (readable_of n bytes tests.1).legal)

  pub read_writes_back : no_room (length frame) offset (length (message_of bytes).changes) ≡ false → Under 256 bytes
      → take (length bytes) (drop offset (frame_after n (message_of bytes) frame offset)) ≡ bytes
  read_writes_back room small =
      let same : written (message_of bytes) ≡ bytes = writes_back n bytes tests.1 small in
      let long : length bytes ≡ written_length (length (message_of bytes).changes) = ap length (sym same) ∙ written-length (message_of bytes) in
      rw long (laid-part n (message_of bytes) frame offset (read_writes room) ∙ same)
