-- Rule: what the writer answers, "its length" or a refusal, and what it leaves in the frame.
-- Order: `room_refusal`, `contents_of`, `laid_at_start`, `Fitting`: what is looked at first, and how the bytes are stored
-- (proofs/Writings.antt).
use Rattle.std.specs.Prelude.{ℕ, ◌+◌, ◌≤◌, ◌<◌, not, List, ◌∷◌, ◌++◌, map, eqb, length, drop}
use Rattle.std.specs.Prelude.{if◌then◌else◌}
use Rattle.ground.specs.Limits.{entry_limit, legal_count}
use Rattle.ground.specs.Refusal.{accepted, answer_base, ◌gives◌, ◌otherwise◌}
use Rattle.rules.specs.Message.{Message, edition, changed_unit, written, written_length, no_room, write_refusal, message_laid}

-- "answers its length": 100 plus it, or the refusal's number.
unfoldable pub write_answer : (n : ℕ) → Message → (places offset : ℕ) → ℕ
write_answer n m places offset =
    if eqb (write_refusal n m places offset) accepted then answer_base + written_length (length m.changes)
    else write_refusal n m places offset

-- "A refusal returns its number alone and changes nothing."
unfoldable pub frame_after : (n : ℕ) → Message → (frame : List ℕ) (offset : ℕ) → List ℕ
frame_after n m frame offset =
    if eqb (write_refusal n m (length frame) offset) accepted then message_laid m frame offset else frame

-- What is looked at before the fields: the count, and the room for so many entries.
abbrev pub room_refusal : (n entries places offset : ℕ) → ℕ
room_refusal n entries places offset = not (legal_count n) gives 1 otherwise no_room places offset entries gives 7

-- The table of contents.
abbrev pub contents_of : (kind sender : ℕ) (changes : List ℕ) → List ℕ
contents_of kind sender changes = edition ∷ sender ∷ kind ∷ length changes ∷ map changed_unit changes

-- A message at the start of a buffer, whose other bytes stay.
unfoldable pub laid_at_start : Message → (place : List ℕ) → List ℕ
laid_at_start m place = written m ++ drop (length (written m)) place

-- What is known of the fields of a legal message: they fit bytes, and the message fits its room.
pub record Fitting (kind sender : ℕ) (changes : List ℕ) : Type 0 where
  pub small_kind : kind < 256
  pub small_sender : sender < 256
  pub few : length changes ≤ entry_limit
