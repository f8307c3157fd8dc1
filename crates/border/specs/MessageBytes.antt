-- Rule: the reader and the writer at the C border: a message's fields as a table of bytes, and changes as bytes, 4 for each.
use Rattle.std.specs.Prelude.{ℕ, ◌*◌, ◌/◌, ◌%◌, Bool, List, [], ◌++◌, eqb, length, drop}
use Rattle.std.specs.Prelude.{if◌then◌else◌}
use Rattle.ground.specs.Refusal.{accepted, ◌otherwise◌}
use Rattle.rules.specs.Message.{message_of}
use Rattle.rules.specs.Tables.{bytes_of, words_of}
use Rattle.message.specs.Numbers.{field_places, fields_refusal, fields_laid}
use Rattle.message.specs.Fields.{fields_of}
use Rattle.message.specs.Writing.{write_answer, frame_after, room_refusal}

abbrev pub field_bytes : ℕ
field_bytes = 4 * field_places

-- The fields at the start of the table, whose bytes after them stay. "A refusal returns its number alone and changes nothing."
unfoldable pub border_fields : (n : ℕ) (bytes fields : List ℕ) → List ℕ
border_fields n bytes fields =
    if eqb (fields_refusal n bytes (length fields / 4)) accepted
    then bytes_of (fields_laid (message_of bytes) []) ++ drop field_bytes fields
    else fields

-- Bytes that are not 4 for each change are "fields that the reader would refuse": 9, behind 1 and 7.
abbrev pub are_changes : (changes : List ℕ) → Bool
are_changes changes = eqb (length changes % 4) 0

abbrev pub broken_refusal : (n entries places offset : ℕ) → ℕ
broken_refusal n entries places offset = room_refusal n entries places offset otherwise 9

unfoldable pub border_write_answer : (n kind sender : ℕ) (changes : List ℕ) (places offset : ℕ) → ℕ
border_write_answer n kind sender changes places offset =
    if are_changes changes then write_answer n (fields_of kind sender (words_of changes)) places offset
    else broken_refusal n (length changes / 4) places offset

unfoldable pub border_frame : (n kind sender : ℕ) (changes frame : List ℕ) (offset : ℕ) → List ℕ
border_frame n kind sender changes frame offset =
    if are_changes changes then frame_after n (fields_of kind sender (words_of changes)) frame offset else frame
