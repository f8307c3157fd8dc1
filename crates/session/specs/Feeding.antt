-- Order: a session between two bytes of its input: what a byte, and bytes one after the other, print and leave
-- (proofs/WholeInput.antt shows that it is `output_of`, proofs/Cutting.antt that the cutting makes no difference).
use Rattle.std.specs.Prelude.{ℕ, List, [], ◌∷◌, ◌++◌, eqb, length}
use Rattle.ground.specs.Bytes.{newline}
use Rattle.std.specs.Prelude.{if◌then◌else◌}
use Rattle.script.specs.Answers.{words_then, bytes_then, meter_then, command_with, answer_text}
use Rattle.session.specs.Input.{start_words, start_bytes}

-- The network's two tables, the meter's, and the line so far.
pub record Session : Type 0 where
  pub words : List ℕ
  pub bytes : List ℕ
  pub meter : List ℕ
  pub line : List ℕ

abbrev pub start : (meter : List ℕ) → Session
start meter = record { words = start_words; bytes = start_bytes; meter = meter; line = [] }

-- A newline ends the line, which is answered; any other byte is one more of it.
unfoldable pub then_byte : Session → (byte : ℕ) → Session
then_byte s byte =
    let command = command_with s.meter s.line in
    if eqb byte newline
    then
    record {
      words = words_then s.words s.bytes command;
      bytes = bytes_then s.words s.bytes command;
      meter = meter_then s.words s.bytes s.meter command;
      line = [];
    }
    else record { words = s.words; bytes = s.bytes; meter = s.meter; line = s.line ++ (byte ∷ []) }

unfoldable pub byte_text : Session → (byte : ℕ) → List ℕ
byte_text s byte = if eqb byte newline then answer_text s.words s.bytes s.meter s.line else []

unfoldable pub then_bytes : Session → (input : List ℕ) → Session
then_bytes s [] = s
then_bytes s (byte ∷ input) = then_bytes (then_byte s byte) input

unfoldable pub bytes_text : Session → (input : List ℕ) → List ℕ
bytes_text s [] = []
bytes_text s (byte ∷ input) = byte_text s byte ++ bytes_text (then_byte s byte) input

-- Chunks one after the other.
unfoldable pub then_chunks : Session → (chunks : List (List ℕ)) → Session
then_chunks s [] = s
then_chunks s (chunk ∷ chunks) = then_chunks (then_bytes s chunk) chunks

unfoldable pub chunks_text : Session → (chunks : List (List ℕ)) → List ℕ
chunks_text s [] = []
chunks_text s (chunk ∷ chunks) = bytes_text s chunk ++ chunks_text (then_bytes s chunk) chunks

-- The end of the input is as a newline where bytes of a line are held, and as nothing where there are none.
unfoldable pub end_of : (held : ℕ) → List ℕ
end_of held = if eqb held 0 then [] else newline ∷ []

abbrev pub end_text : Session → List ℕ
end_text s = bytes_text s (end_of (length s.line))
