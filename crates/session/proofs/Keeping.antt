-- What is lent keeps a session: of its line no more than the room, which is enough to tell its command.
use Prim.Native.Nat.{ℕ, suc, min}
use native.Mathlib.Omega.{arith}
use mathlib.Core.Bool.{true, false}
use mathlib.Core.List.{List, [], ◌∷◌, ◌++◌}
use mathlib.Core.Logic.{⊎_elim}
use mathlib.Core.Path.{◌≡◌, refl, sym, ap, ◌∙◌}
use lib.Dec.{eqb}
use lib.ListN.{length, take, set, length-append}
use lib.Seq.{length-sets, set_out, take_all, take-suc-set, take-append-le}
use Rattle.ground.specs.Bytes.{newline}
use Rattle.ground.proofs.Tests.{less_or_not}
use Rattle.lines.proofs.Longest.{kept_command}
use Rattle.slices.specs.Putting.{used_after, put_after}
use Rattle.script.specs.Answers.{is_metered, command_with, answer_text}
use Rattle.session.specs.Feeding.{Session, then_byte}
use Rattle.session.specs.Lending.{kept_room, Lent, answered, kept}

pub record Keeps (lent : Lent) (s : Session) : Type 0 where
  pub words : lent.words ≡ s.words
  pub bytes : lent.bytes ≡ s.bytes
  pub meter : lent.meter ≡ s.meter
  pub room : length lent.line ≡ kept_room
  pub held : lent.held ≡ min kept_room (length s.line)
  pub line : take lent.held lent.line ≡ take kept_room s.line

-- One byte more of the line: with room it is held, without it is not needed.
module _ (line whole : List ℕ) (held byte : ℕ) (room : length line ≡ kept_room) (some : held ≡ min kept_room (length whole))
    (same : take held line ≡ take kept_room whole) where
  held_more : used_after held (byte ∷ []) line ≡ min kept_room (length (whole ++ (byte ∷ [])))
  held_more = omega (arith, length-append whole (byte ∷ []))

  line_more : take (used_after held (byte ∷ []) line) (put_after held (byte ∷ []) line) ≡ take kept_room (whole ++ (byte ∷ []))
  unfolding put_after
  line_more =
      ⊎_elim
      (λ l.
      let one : used_after held (byte ∷ []) line ≡ suc held = omega arith in
      let all : take held line ≡ whole = same ∙ take_all kept_room whole (omega arith) in
      ap (λ (n : ℕ). take n (set line held byte)) one
      ∙ take-suc-set line held byte (omega arith)
      ∙ ap (λ (l : List ℕ). l ++ (byte ∷ [])) all
      ∙ sym (take_all kept_room (whole ++ (byte ∷ [])) (omega (arith, length-append whole (byte ∷ [])))))
      (λ l.
      let full : used_after held (byte ∷ []) line ≡ held = omega arith in
      ap (λ (n : ℕ). take n (set line held byte)) full
      ∙ ap (λ (l : List ℕ). take held l) (set_out line held byte (omega arith))
      ∙ same
      ∙ sym (take-append-le kept_room whole (byte ∷ []) l))
      (less_or_not (length whole) kept_room)

module _ (lent : Lent) (s : Session) (keeps : Keeps lent s) where
  -- What is held of the line is its command.
  held_command : command_with lent.meter (take lent.held lent.line) ≡ command_with s.meter s.line
  held_command =
      ap (command_with lent.meter) keeps.line
      ∙ kept_command kept_room (omega arith) (is_metered lent.meter) s.line
      ∙ ap (λ (meter : List ℕ). command_with meter s.line) keeps.meter

  pub held_text : answer_text lent.words lent.bytes lent.meter (take lent.held lent.line)
      ≡ answer_text s.words s.bytes s.meter s.line
  held_text = rw (held_command, keeps.words, keeps.bytes, keeps.meter)

  -- A byte of the line.
  pub keeps_byte : (byte : ℕ) → eqb byte newline ≡ false → Keeps (kept lent byte) (then_byte s byte)
  unfolding kept then_byte put_after
  keeps_byte byte other =
      rw other
      (record {
        words = keeps.words;
        bytes = keeps.bytes;
        meter = keeps.meter;
        room = length-sets lent.line lent.held (byte ∷ []) ∙ keeps.room;
        held = held_more lent.line s.line lent.held byte keeps.room keeps.held keeps.line;
        line = line_more lent.line s.line lent.held byte keeps.room keeps.held keeps.line;
      })

  -- A newline.
  pub keeps_newline : (byte : ℕ) → eqb byte newline ≡ true → Keeps (answered lent) (then_byte s byte)
  unfolding answered then_byte
  keeps_newline byte ends =
      rw ends
      (record {
        words = rw (held_command, keeps.words, keeps.bytes);
        bytes = rw (held_command, keeps.words, keeps.bytes);
        meter = rw (held_command, keeps.words, keeps.bytes, keeps.meter);
        room = keeps.room;
        held = omega arith;
        line = refl;
      })
