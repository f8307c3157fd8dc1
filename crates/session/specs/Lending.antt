-- Order: what is lent to a call of the session, and what bytes of the input make of it (proofs/Fed.antt).
use Rattle.std.specs.Prelude.{ℕ, suc, ◌+◌, Bool, ◌&&◌, List, [], ◌∷◌, eqb, leb, length, take, drop}
use Rattle.ground.specs.Bytes.{newline}
use Rattle.std.specs.Prelude.{if◌then◌else◌}
use Rattle.slices.specs.Putting.{used_after, put_after}
use Rattle.script.specs.Answers.{words_then, bytes_then, meter_then, command_with, answer_text, answer_room}
use Rattle.session.specs.Feeding.{end_of}
use Rattle.session.specs.declared.Reached.{Reached}

-- The bytes of a line that are kept. No command is longer, so no more of a line is needed.
abbrev pub kept_room : ℕ
kept_room = 64

-- The network's tables and the meter's; the room for a line, with the bytes held of it; the buffer for answers, with the bytes
-- used of it; and the place of the chunk that is next.
pub record Lent : Type 0 where
  pub words : List ℕ
  pub bytes : List ℕ
  pub meter : List ℕ
  pub line : List ℕ
  pub held : ℕ
  pub out : List ℕ
  pub used : ℕ
  pub place : ℕ

-- What of it the caller is told.
abbrev pub reached_in : Lent → Reached
reached_in lent = record { place = lent.place; held = lent.held; used = lent.used }

-- A byte is taken only where the line has its room, and every answer would have room.
unfoldable pub goes_on : (places held room used : ℕ) → Bool
goes_on places held room used = eqb places kept_room && leb held kept_room && leb (used + answer_room) room

abbrev pub is_ready : Lent → Bool
is_ready lent = goes_on (length lent.line) lent.held (length lent.out) lent.used

-- The line is answered, and the next one begins.
unfoldable pub answered : Lent → Lent
answered lent =
    let line = take lent.held lent.line in
    let text = answer_text lent.words lent.bytes lent.meter line in
    let command = command_with lent.meter line in
    record {
      words = words_then lent.words lent.bytes command;
      bytes = bytes_then lent.words lent.bytes command;
      meter = meter_then lent.words lent.bytes lent.meter command;
      line = lent.line;
      held = 0;
      out = put_after lent.used text lent.out;
      used = used_after lent.used text lent.out;
      place = suc lent.place;
    }

-- One byte more of the line, if there is room for it.
unfoldable pub kept : Lent → (byte : ℕ) → Lent
kept lent byte =
    record {
      words = lent.words;
      bytes = lent.bytes;
      meter = lent.meter;
      line = put_after lent.held (byte ∷ []) lent.line;
      held = used_after lent.held (byte ∷ []) lent.line;
      out = lent.out;
      used = lent.used;
      place = suc lent.place;
    }

-- What bytes make of it: each is taken, until there might be no room.
unfoldable pub fed : Lent → (input : List ℕ) → Lent
fed lent [] = lent
fed lent (byte ∷ input) =
    if is_ready lent then fed (if eqb byte newline then answered lent else kept lent byte) input else lent

-- A call with a chunk and the place to go on from, and that at the end of the input.
abbrev pub feeding : (words bytes meter line : List ℕ) (held : ℕ) (chunk : List ℕ) (place : ℕ) (out : List ℕ) (used : ℕ) → Lent
feeding words bytes meter line held chunk place out used =
    fed
    (record {
      words = words;
      bytes = bytes;
      meter = meter;
      line = line;
      held = held;
      out = out;
      used = used;
      place = place;
    })
    (drop place chunk)

abbrev pub finishing : (words bytes meter line : List ℕ) (held : ℕ) (out : List ℕ) (used : ℕ) → Lent
finishing words bytes meter line held out used =
    feeding words bytes meter line held (end_of held) 0 out used
