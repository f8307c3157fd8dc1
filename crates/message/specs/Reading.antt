-- Rule: what the reader answers: "kind, sender and entry count, or refusal; the entries' array beside it".
-- Order: `is_framed`, `Framed`: which part of the layout is looked at first (proofs/Readings.antt).
use Rattle.std.specs.Prelude.{ℕ, ◌+◌, ◌*◌, ◌≤◌, Bool, true, ◌&&◌, List, [], ◌∷◌, Result, Ok, Err, ◌≡◌, eqb, length}
use Rattle.std.specs.Prelude.{if◌then◌else◌}
use Rattle.ground.specs.Limits.{entry_limit, unit_limit}
use Rattle.ground.specs.Refusal.{accepted}
use Rattle.ground.specs.Refused.{number_of}
use Rattle.ground.specs.Rows.{at, zeros, filled}
use Rattle.ground.specs.Said.{Said, accepted_with, refused_with}
use Rattle.rules.specs.Message.{Message, edition, written_length, message_of, read_refusal}
use Rattle.ground.specs.declared.refusals.Refusal.{Refusal}
use Rattle.message.specs.Kind.{kind_number}
use Rattle.message.specs.declared.reader.Header.{Header}

-- Document 01's number and values for each case of the reader's answer.
abbrev pub reading_said : Result Header Refusal → Said
reading_said (Ok header) = accepted_with (kind_number header.kind ∷ header.sender ∷ header.entries ∷ [])
reading_said (Err refusal) = refused_with (number_of refusal)

-- "kind, sender and entry count": the values of a message.
abbrev pub message_values : Message → List ℕ
message_values m = m.kind ∷ m.sender ∷ length m.changes ∷ []

-- "the entries' array beside it": the message's changes with zeros after the last, and zeros beside a refusal.
unfoldable pub changes_read : (n : ℕ) (bytes : List ℕ) → List ℕ
changes_read n bytes = if eqb (read_refusal n bytes) accepted then filled entry_limit (message_of bytes).changes else zeros entry_limit

-- The part of the layout that comes before the fields: the edition, and the length that the number of entries asks for.
unfoldable pub is_framed : (bytes : List ℕ) → Bool
is_framed bytes = eqb (at bytes 0) edition && eqb (length bytes) (written_length (at bytes 3))

-- What is known of framed bytes and a legal count.
pub record Framed (n : ℕ) (bytes : List ℕ) : Type 0 where
  pub two : 2 ≤ n
  pub limit : n ≤ unit_limit
  pub framed : is_framed bytes ≡ true
  pub long : length bytes ≡ 4 + 4 * at bytes 3
