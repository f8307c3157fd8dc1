-- Fed byte by byte, and then ended, an input prints what its lines print.
use Prim.Native.Nat.{ℕ, suc}
use native.Mathlib.Omega.{arith}
use mathlib.Core.Bool.{true, false}
use mathlib.Core.List.{List, [], ◌∷◌, ◌++◌, append-nil, append_assoc}
use mathlib.Core.Logic.{⊎_elim}
use mathlib.Core.Path.{◌≡◌, refl, sym, ap, ◌∙◌}
use borrow.Author.Tests.{ne_eqb}
use lib.Dec.{eqb}
use lib.ListN.{length}
use Rattle.ground.specs.Bytes.{newline}
use Rattle.ground.specs.Rows.{joined}
use Rattle.ground.proofs.Tests.{yes_or_no, if_true, if_false}
use Rattle.lines.specs.declared.Command.{Command}
use Rattle.script.specs.Answers.{words_then, bytes_then, meter_then, command_with, answer_text}
use Rattle.session.specs.Feeding.{Session, start, then_byte, byte_text, then_bytes, bytes_text}
use Rattle.session.specs.Feeding.{then_chunks, chunks_text, end_of, end_text}
use Rattle.session.specs.Input.{begun, lines_of, lines_text, start_words, start_bytes, output_with}
use Rattle.session.proofs.Cutting.{chunks_left, chunks-text}

-- The lines of an input of which some bytes came before.
unfoldable continued : (front : List ℕ) (lines : List (List ℕ)) → List (List ℕ)
continued [] lines = lines
continued (byte ∷ front) lines = begun (byte ∷ front) lines

-- One byte more came before.
continued_more : (front : List ℕ) (byte : ℕ) (lines : List (List ℕ))
    → continued (front ++ (byte ∷ [])) lines ≡ continued front (begun (byte ∷ []) lines)
unfolding continued begun
continued_more [] byte lines = refl
continued_more (first ∷ front) byte [] = refl
continued_more (first ∷ front) byte (line ∷ lines) =
    ap (λ (l : List ℕ). l ∷ lines) (append_assoc (first ∷ front) (byte ∷ []) line)

-- The line that came before is ended.
continued_ended : (front : List ℕ) (lines : List (List ℕ)) → continued front ([] ∷ lines) ≡ front ∷ lines
unfolding continued begun
continued_ended [] lines = refl
continued_ended (first ∷ front) lines = ap (λ (l : List ℕ). l ∷ lines) (append-nil (first ∷ front))

-- The end of the input, with bytes of a line before it and without.
end-text : (words bytes meter line : List ℕ)
    → end_text (record { words = words; bytes = bytes; meter = meter; line = line })
    ≡ lines_text words bytes meter (continued line (lines_of []))
unfolding end_of bytes_text byte_text continued begun lines_of lines_text
end-text words bytes meter [] = refl
end-text words bytes meter (byte ∷ line) = rw (ne_eqb (suc (length line)) 0 (λ e. omega arith))

-- One byte, and then the others.
byte_first : (s next : Session) (byte : ℕ) (text input : List ℕ) → then_byte s byte ≡ next → byte_text s byte ≡ text
    → bytes_text s (byte ∷ input) ++ end_text (then_bytes s (byte ∷ input))
    ≡ text ++ (bytes_text next input ++ end_text (then_bytes next input))
unfolding bytes_text then_bytes
byte_first s next byte text input e f =
    append_assoc (byte_text s byte) (bytes_text (then_byte s byte) input) (end_text (then_bytes (then_byte s byte) input))
    ∙ ap (λ (n : Session). byte_text s byte ++ (bytes_text n input ++ end_text (then_bytes n input))) e
    ∙ ap (λ (t : List ℕ). t ++ (bytes_text next input ++ end_text (then_bytes next input))) f

-- A newline, and any other byte.
module _ (words bytes meter line : List ℕ) (byte : ℕ) where
  abbrev here : Session
  here = record { words = words; bytes = bytes; meter = meter; line = line }

  abbrev after : Session
  after =
      record {
        words = words_then words bytes (command_with meter line);
        bytes = bytes_then words bytes (command_with meter line);
        meter = meter_then words bytes meter (command_with meter line);
        line = [];
      }

  abbrev longer : Session
  longer = record { words = words; bytes = bytes; meter = meter; line = line ++ (byte ∷ []) }

  then_newline : eqb byte newline ≡ true → then_byte here byte ≡ after
  unfolding then_byte
  then_newline t = if_true (eqb byte newline) after longer t

  text_newline : eqb byte newline ≡ true → byte_text here byte ≡ answer_text words bytes meter line
  unfolding byte_text
  text_newline t = if_true (eqb byte newline) (answer_text words bytes meter line) [] t

  then_other : eqb byte newline ≡ false → then_byte here byte ≡ longer
  unfolding then_byte
  then_other f = if_false (eqb byte newline) after longer f

  text_other : eqb byte newline ≡ false → byte_text here byte ≡ []
  unfolding byte_text
  text_other f = if_false (eqb byte newline) (answer_text words bytes meter line) [] f

  lines_newline : (input : List ℕ) → eqb byte newline ≡ true
      → lines_text words bytes meter (continued line (lines_of (byte ∷ input)))
      ≡ answer_text words bytes meter line ++ lines_text after.words after.bytes after.meter (lines_of input)
  unfolding lines_of lines_text
  lines_newline input t =
      ap (λ (lines : List (List ℕ)). lines_text words bytes meter (continued line lines))
      (if_true (eqb byte newline) ([] ∷ lines_of input) (begun (byte ∷ []) (lines_of input)) t)
      ∙ ap (lines_text words bytes meter) (continued_ended line (lines_of input))

  lines_other : (input : List ℕ) → eqb byte newline ≡ false
      → lines_text words bytes meter (continued line (lines_of (byte ∷ input)))
      ≡ lines_text words bytes meter (continued (line ++ (byte ∷ [])) (lines_of input))
  unfolding lines_of
  lines_other input f =
      ap (λ (lines : List (List ℕ)). lines_text words bytes meter (continued line lines))
      (if_false (eqb byte newline) ([] ∷ lines_of input) (begun (byte ∷ []) (lines_of input)) f)
      ∙ ap (lines_text words bytes meter) (sym (continued_more line byte (lines_of input)))

-- From any session: what is fed and the end print the lines that its bytes go on with.
lines-text : (input words bytes meter line : List ℕ)
    → bytes_text (record { words = words; bytes = bytes; meter = meter; line = line }) input
    ++ end_text (then_bytes (record { words = words; bytes = bytes; meter = meter; line = line }) input)
    ≡ lines_text words bytes meter (continued line (lines_of input))
unfolding bytes_text then_bytes continued
lines-text [] words bytes meter line = end-text words bytes meter line
lines-text (byte ∷ input) words bytes meter line =
    ⊎_elim
    (λ t.
    byte_first s (after words bytes meter line byte) byte _ input (then_newline words bytes meter line byte t)
    (text_newline words bytes meter line byte t)
    ∙ ap (λ (l : List ℕ). answer_text words bytes meter line ++ l)
    (lines-text input (words_then words bytes command) (bytes_then words bytes command) (meter_then words bytes meter command) [])
    ∙ sym (lines_newline words bytes meter line byte input t))
    (λ f.
    byte_first s (longer words bytes meter line byte) byte [] input (then_other words bytes meter line byte f)
    (text_other words bytes meter line byte f)
    ∙ lines-text input words bytes meter (line ++ (byte ∷ []))
    ∙ sym (lines_other words bytes meter line byte input f))
    (yes_or_no (eqb byte newline))
  where
    s : Session
    s = record { words = words; bytes = bytes; meter = meter; line = line }

    command : Command
    command = command_with meter line

-- So a whole input that is fed byte by byte, and then ended, prints what is to be printed,
pub fed_output : (meter input : List ℕ)
    → bytes_text (start meter) input ++ end_text (then_bytes (start meter) input) ≡ output_with meter input
unfolding continued
fed_output meter input = lines-text input start_words start_bytes meter []

-- and so it does however it is cut into chunks.
pub cut_output : (meter : List ℕ) (chunks : List (List ℕ))
    → chunks_text (start meter) chunks ++ end_text (then_chunks (start meter) chunks) ≡ output_with meter (joined chunks)
cut_output meter chunks =
    rw (chunks-text (start meter) chunks, chunks_left (start meter) chunks) (fed_output meter (joined chunks))
