-- Rule: what the reader answers where it lays the fields of a message into a lent table, 100 plus the number of entries, and the table then.
use Rattle.std.specs.Prelude.{ℕ, ◌+◌, not, List, ◌∷◌, ◌++◌, eqb, ltb, length, drop}
use Rattle.std.specs.Prelude.{if◌then◌else◌}
use Rattle.ground.specs.Limits.{entry_limit, legal_count}
use Rattle.ground.specs.Refusal.{accepted, answer_base, ◌gives◌, ◌otherwise◌}
use Rattle.ground.specs.Rows.{filled}
use Rattle.rules.specs.Message.{Message, message_of, readable}

-- The places that the fields of a message take: kind, sender, number of entries, and then the changes.
abbrev pub leading : ℕ
leading = 3

abbrev pub field_places : ℕ
field_places = leading + entry_limit

-- The reader's refusals with a lent table for the fields: 7, "buffer too short", comes between.
abbrev pub fields_refusal : (n : ℕ) (bytes : List ℕ) (places : ℕ) → ℕ
fields_refusal n bytes places =
    not (legal_count n) gives 1
    otherwise ltb places field_places gives 7
    otherwise not (readable n bytes) gives 9

unfoldable pub read_answer : (n : ℕ) (bytes : List ℕ) (places : ℕ) → ℕ
read_answer n bytes places =
    if eqb (fields_refusal n bytes places) accepted then answer_base + length (message_of bytes).changes else fields_refusal n bytes places

-- The fields at the start of a table, whose places after them stay.
unfoldable pub laid_fields : (kind sender entries : ℕ) (changes fields : List ℕ) → List ℕ
laid_fields kind sender entries changes fields = (kind ∷ sender ∷ entries ∷ changes) ++ drop field_places fields

-- Those of a message: the changes are filled up with zeros.
abbrev pub fields_laid : Message → (fields : List ℕ) → List ℕ
fields_laid m fields = laid_fields m.kind m.sender (length m.changes) (filled entry_limit m.changes) fields

-- "A refusal returns its number alone and changes nothing."
unfoldable pub fields_after : (n : ℕ) (bytes fields : List ℕ) → List ℕ
fields_after n bytes fields =
    if eqb (fields_refusal n bytes (length fields)) accepted then fields_laid (message_of bytes) fields else fields
