-- Rule: messages between neighbours: differences of trees, and the bytes that carry them.
use Rattle.std.specs.Prelude.{ℕ, zero, suc, ◌+◌, ◌-◌, ◌*◌, ◌/◌, ◌%◌, Bool, not, ◌&&◌, ◌||◌, List, [], ◌∷◌, ◌++◌, map, eqb, ltb, leb, length, set, take, drop}
use Rattle.std.specs.Prelude.{if◌then◌else◌}
use Rattle.ground.specs.Limits.{legal_cost, legal_count, entry_base, change_base}
use Rattle.ground.specs.Refusal.{◌gives◌, ◌otherwise◌}
use Rattle.ground.specs.Rows.{at, tab, every}
use Rattle.tree.specs.Tree.{nothing, head_of, cost_of}

-- A change of one unit's entry is one number, its four bytes in a message: the unit, then "head, cost with the high byte
-- first; or 255 and cost 0 for a removed entry".
abbrev pub change : (unit body : ℕ) → ℕ
change unit body = unit * change_base + body

abbrev pub changed_unit : ℕ → ℕ
changed_unit c = c / change_base

abbrev pub body_of : ℕ → ℕ
body_of c = c % change_base

abbrev pub removed : ℕ
removed = 255 * entry_base

-- The entry that a body sets, and the body that sets an entry.
abbrev pub entry_of : ℕ → ℕ
entry_of body = if eqb body removed then nothing else body

abbrev pub body_for : ℕ → ℕ
body_for e = if eqb e nothing then removed else e

pub record Message : Type 0 where
  pub kind : ℕ
  pub sender : ℕ
  pub changes : List ℕ

-- "Byte 2: 1 acknowledgment, 2 update, 3 both."
abbrev pub acknowledgment : ℕ
acknowledgment = 1

abbrev pub update : ℕ
update = 2

abbrev pub holds_acknowledgment : Message → Bool
holds_acknowledgment m = eqb (m.kind % 2) 1

abbrev pub holds_update : Message → Bool
holds_update m = leb update m.kind

-- "the differences": a change for each unit below n whose entry is another in the new tree, rising.
unfoldable pub differences : (n : ℕ) (old new : List ℕ) → List ℕ
differences zero old new = []
differences (suc j) old new =
    differences j old new ++ (if eqb (at old j) (at new j) then [] else change j (body_for (at new j)) ∷ [])

-- "its update changes the sender's copy"
unfoldable pub applied : (copy changes : List ℕ) → List ℕ
applied copy [] = copy
applied copy (c ∷ rest) = applied (set copy (changed_unit c) (entry_of (body_of c))) rest

-- "changed units, strictly rising, below the count, never the sender"
unfoldable pub legal_unit : (n sender : ℕ) (changes : List ℕ) (i : ℕ) → Bool
legal_unit n sender changes i =
    ltb (changed_unit (at changes i)) n
    && not (eqb (changed_unit (at changes i)) sender)
    && (eqb i 0 || ltb (changed_unit (at changes (i - 1))) (changed_unit (at changes i)))

-- "or 255 and cost 0 for a removed entry. A head that isn't 255 is below the count and differs from its unit, and its
-- cost is 1 to 65,535."
unfoldable pub legal_body : (n unit body : ℕ) → Bool
legal_body n unit body =
    eqb body removed
    || (ltb (head_of body) n && not (eqb (head_of body) unit) && legal_cost (cost_of body))

unfoldable pub legal_changes : (n sender : ℕ) (changes : List ℕ) → Bool
legal_changes n sender changes =
    every (length changes) (λ i.
    legal_unit n sender changes i && legal_body n (changed_unit (at changes i)) (body_of (at changes i)))

-- "sender, below the count"; "number of entries, 0 to the count less one"; "No entries without the update bit; an update
-- without entries is legal."
unfoldable pub legal_message : (n : ℕ) → Message → Bool
legal_message n m =
    ltb m.sender n
    && (leb 1 m.kind && leb m.kind 3)
    && leb (length m.changes) (n - 1)
    && (holds_update m || eqb (length m.changes) 0)
    && legal_changes n m.sender m.changes

-- "Byte 0: edition 1."
abbrev pub edition : ℕ
edition = 1

-- A body's 3 bytes: "head, cost with the high byte first"
unfoldable pub body_bytes : List ℕ → List ℕ
body_bytes [] = []
body_bytes (c ∷ rest) = c / entry_base % 256 ∷ c / 256 % 256 ∷ c % 256 ∷ body_bytes rest

-- "A table of contents first, then the bodies."
unfoldable pub written : Message → List ℕ
written m =
    edition ∷ m.sender ∷ m.kind ∷ length m.changes
    ∷ (map changed_unit m.changes ++ body_bytes m.changes)

-- "Length is exactly 4 plus 4 for each entry."
abbrev pub written_length : (entries : ℕ) → ℕ
written_length entries = 4 + 4 * entries

-- The change at place i of bytes that hold the given number of entries.
unfoldable pub change_at : (bytes : List ℕ) (entries i : ℕ) → ℕ
change_at bytes entries i =
    change (at bytes (4 + i))
    (at bytes (4 + entries + 3 * i) * entry_base
    + at bytes (5 + entries + 3 * i) * 256
    + at bytes (6 + entries + 3 * i))

-- The message whose fields the bytes hold.
unfoldable pub message_of : (bytes : List ℕ) → Message
message_of bytes =
    record {
      kind = at bytes 2;
      sender = at bytes 1;
      changes = tab (at bytes 3) (change_at bytes (at bytes 3));
    }

-- "The reader takes exactly one message": whether bytes are one, in a network of n units.
unfoldable pub readable : (n : ℕ) (bytes : List ℕ) → Bool
readable n bytes =
    eqb (at bytes 0) edition
    && eqb (length bytes) (written_length (at bytes 3))
    && legal_message n (message_of bytes)

-- The reader's refusals: 1, "unit count not 2 to 16 (.. reader, writer)"; 9, "message against the layout".
abbrev pub read_refusal : (n : ℕ) (bytes : List ℕ) → ℕ
read_refusal n bytes = not (legal_count n) gives 1 otherwise not (readable n bytes) gives 9

-- 7: "buffer too short: the writer's from its offset (4 plus 4 for each entry given) .. or an offset past the end"
abbrev pub no_room : (places offset entries : ℕ) → Bool
no_room places offset entries = ltb places offset || ltb (places - offset) (written_length entries)

-- "The writer gives 9 for fields that the reader would refuse."
abbrev pub write_refusal : (n : ℕ) → Message → (places offset : ℕ) → ℕ
write_refusal n m places offset =
    not (legal_count n) gives 1
    otherwise no_room places offset (length m.changes) gives 7
    otherwise not (legal_message n m) gives 9

-- "The writer lays the message into the caller's frame buffer from a given offset onward .. and bytes before and after the
-- message stay."
abbrev pub message_laid : Message → (frame : List ℕ) (offset : ℕ) → List ℕ
message_laid m frame offset = take offset frame ++ written m ++ drop (offset + length (written m)) frame
