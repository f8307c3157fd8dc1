-- What is written call by call and chunk by chunk, each call going on where the last stopped, is what the input prints.
use Prim.Native.Nat.{ℕ, zero, suc, ◌+◌, ◌≤◌, ◌<◌, min}
use native.Mathlib.Omega.{arith}
use mathlib.Core.Bool.{true}
use mathlib.Core.List.{List, [], ◌∷◌, ◌++◌, append-nil, append_assoc}
use mathlib.Core.Logic.{⊎_elim}
use mathlib.Core.Path.{◌≡◌, refl, sym, ap, ap₂, ◌∙◌}
use borrow.Author.Tests.{eq-eqb, ne_eqb, le-leb}
use lib.Dec.{eqb}
use lib.ListN.{length, take, drop, length-drop, drop_of_length-le}
use lib.Seq.{length-sets, drop-drop, drop-append_seam, take-append_seam}
use Rattle.ground.specs.Bytes.{newline}
use Rattle.ground.specs.Rows.{joined}
use Rattle.ground.proofs.Choices.{by_choice}
use Rattle.ground.proofs.Tests.{less_or_not, equal_or_not}
use Rattle.slices.specs.Putting.{put_after}
use Rattle.slices.proofs.Putting.{Put, put_laid}
use Rattle.script.specs.Answers.{answer_room}
use Rattle.session.specs.Feeding.{Session, start, then_bytes, bytes_text, end_of, end_text}
use Rattle.session.specs.Input.{start_words, start_bytes, output_with}
use Rattle.session.specs.Lending.{kept_room, Lent, goes_on, is_ready, fed}
use Rattle.session.specs.Writing.{lent_at, called, written_by, left_by_calls, written_by_calls, written_by_chunks}
use Rattle.session.proofs.Cutting.{then_append, text_append}
use Rattle.session.proofs.Fed.{Went, fed_went}
use Rattle.session.proofs.Keeping.{Keeps}
use Rattle.session.proofs.WholeInput.{fed_output}

-- A buffer that was empty holds the text that was put.
text_written : (out text : List ℕ) {used : ℕ} {after : List ℕ} → Put out 0 text used after → used ≡ 0 + length text
    → take used after ≡ text
text_written out text {used} put all =
    let laid = put_laid out text 0 (omega (arith, put.0)) put in
    let many : used ≡ length text = omega arith in
    rw (laid.1, many) (take-append_seam text _)

-- A buffer keeps its room.
room_kept : (out text : List ℕ) (used : ℕ) {then : ℕ} {after : List ℕ} → Put out used text then after
    → length after ≡ length out
unfolding put_after
room_kept out text used put = ap length put.1 ∙ length-sets out used text

-- What is lent to one call.
module _ (lent : Lent) (s : Session) (keeps : Keeps lent s) (room : answer_room ≤ length lent.out) where
  keeps_at : (place : ℕ) → Keeps (lent_at lent place) s
  keeps_at place =
      record {
        words = keeps.words;
        bytes = keeps.bytes;
        meter = keeps.meter;
        room = keeps.room;
        held = keeps.held;
        line = keeps.line;
      }

  ready_at : (place : ℕ) → is_ready (lent_at lent place) ≡ true
  unfolding goes_on
  ready_at place =
      simp (
        eq-eqb (length lent.line) kept_room keeps.room,
        le-leb lent.held kept_room (omega (arith, keeps.held)),
        le-leb (0 + answer_room) (length lent.out) (omega arith),
      )

  module _ (chunk : List ℕ) where
    -- What one call takes, and what is then left of the chunk.
    went : Went (lent_at lent lent.place) s (drop lent.place chunk) (called lent chunk)
    went = fed_went (drop lent.place chunk) (lent_at lent lent.place) s (keeps_at lent.place)

    left_over : drop (called lent chunk).place chunk ≡ went.rest
    left_over =
        ap (λ (n : ℕ). drop n chunk) went.place
        ∙ sym (drop-drop (length went.front) lent.place chunk)
        ∙ ap (drop (length went.front)) went.whole
        ∙ drop-append_seam went.front went.rest

    call_written : written_by (called lent chunk) ≡ bytes_text s went.front
    call_written = text_written lent.out (bytes_text s went.front) went.put went.all

    call_room : length (called lent chunk).out ≡ length lent.out
    call_room = room_kept lent.out (bytes_text s went.front) 0 went.put

    -- It takes a byte at least, if there is one.
    call_further : (calls : ℕ) → length chunk ≤ lent.place + suc calls → length chunk ≤ (called lent chunk).place + calls
    call_further calls enough =
        ⊎_elim
        (λ some.
        let one : 0 < length went.front =
        went.further (ready_at lent.place) (omega (arith, length-drop lent.place chunk)) in
        omega (arith, went.place))
        (λ none. omega (arith, went.place))
        (less_or_not lent.place (length chunk))

-- Calls with a chunk that are enough to use it up: what they write, and what they leave.
record Wrote (lent : Lent) (s : Session) (input : List ℕ) (written : List ℕ) (left : Lent) : Type 0 where
  pub text : written ≡ bytes_text s input
  pub keeps : Keeps left (then_bytes s input)
  pub room : answer_room ≤ length left.out

wrote_more : (lent : Lent) (s : Session) (keeps : Keeps lent s) (room : answer_room ≤ length lent.out) (chunk : List ℕ)
    {written : List ℕ} {left : Lent}
    → Wrote (called lent chunk) (then_bytes s (went lent s keeps room chunk).front) (drop (called lent chunk).place chunk)
    written left
    → Wrote lent s (drop lent.place chunk) (written_by (called lent chunk) ++ written) left
wrote_more lent s keeps room chunk {written} {left} more =
    let all = rw (left_over lent s keeps room chunk) at more in
    let one = went lent s keeps room chunk in
    record {
      text =
          ap₂ (λ (l rest : List ℕ). l ++ rest) (call_written lent s keeps room chunk) all.text
          ∙ sym (text_append s one.front one.rest)
          ∙ ap (bytes_text s) (sym one.whole);
      keeps = rw (sym (then_append s one.front one.rest) ∙ ap (then_bytes s) (sym one.whole)) at all.keeps;
      room = all.room;
    }

calls_wrote : (calls : ℕ) (lent : Lent) (s : Session) (chunk : List ℕ) → Keeps lent s → answer_room ≤ length lent.out
    → length chunk ≤ lent.place + calls
    → Wrote lent s (drop lent.place chunk) (written_by_calls calls lent chunk) (left_by_calls calls lent chunk)
unfolding written_by_calls left_by_calls then_bytes bytes_text
calls_wrote zero lent s chunk keeps room enough =
    rw (drop_of_length-le chunk {i = lent.place} (omega arith)) (record { text = refl; keeps = keeps; room = room })
calls_wrote (suc calls) lent s chunk keeps room enough =
    wrote_more lent s keeps room chunk
    (calls_wrote calls (called lent chunk) _ chunk (went lent s keeps room chunk).keeps
    (omega (arith, call_room lent s keeps room chunk)) (call_further lent s keeps room chunk calls enough))

-- The end of the input, from what is held of the line.
end_held : (held : ℕ) (line : List ℕ) → held ≡ min kept_room (length line) → end_of held ≡ end_of (length line)
unfolding end_of
end_held held line some =
    ⊎_elim
    (λ none. rw (eq-eqb held 0 (omega arith), eq-eqb (length line) 0 none))
    (λ one. rw (ne_eqb held 0 (λ e. omega arith), ne_eqb (length line) 0 one))
    (equal_or_not (length line) 0)

end_few : (held : ℕ) → length (end_of held) ≤ 1
unfolding end_of
end_few held =
    by_choice (λ (input : List ℕ). length input ≤ 1) (eqb held 0) [] (newline ∷ []) (λ t. omega arith) (λ f. omega arith)

end_wrote : (lent : Lent) (s : Session) → Keeps lent s → answer_room ≤ length lent.out
    → written_by (fed (lent_at lent 0) (end_of lent.held)) ≡ end_text s
unfolding written_by_calls
end_wrote lent s keeps room =
    let few = end_few lent.held in
    let wrote = calls_wrote 1 (lent_at lent 0) s (end_of lent.held) (keeps_at lent s keeps room 0) room few in
    sym (append-nil (written_by (fed (lent_at lent 0) (end_of lent.held))))
    ∙ wrote.text
    ∙ ap (bytes_text s) (end_held lent.held s.line keeps.held)

-- All chunks, and the end.
chunks_wrote : (chunks : List (List ℕ)) (lent : Lent) (s : Session) → Keeps lent s → answer_room ≤ length lent.out
    → written_by_chunks lent chunks ≡ bytes_text s (joined chunks) ++ end_text (then_bytes s (joined chunks))
unfolding written_by_chunks bytes_text then_bytes
chunks_wrote [] lent s keeps room = end_wrote lent s keeps room
chunks_wrote (chunk ∷ chunks) lent s keeps room =
    let wrote = calls_wrote (length chunk) (lent_at lent 0) s chunk (keeps_at lent s keeps room 0) room (omega arith) in
    ap₂ (λ (l more : List ℕ). l ++ more) wrote.text (chunks_wrote chunks _ (then_bytes s chunk) wrote.keeps wrote.room)
    ∙ sym (append_assoc (bytes_text s chunk) (bytes_text (then_bytes s chunk) (joined chunks)) _)
    ∙ ap₂ (λ (l : List ℕ) (n : Session). l ++ end_text n)
    (sym (text_append s chunk (joined chunks))) (sym (then_append s chunk (joined chunks)))

-- So a program writes what its input prints from the meter that it lends, however the reads cut it.
pub program_output : (meter line out : List ℕ) → length line ≡ kept_room → answer_room ≤ length out → (chunks : List (List ℕ))
    → written_by_chunks
    (record {
      words = start_words;
      bytes = start_bytes;
      meter = meter;
      line = line;
      held = 0;
      out = out;
      used = 0;
      place = 0;
    })
    chunks
    ≡ output_with meter (joined chunks)
program_output meter line out kept room chunks =
    chunks_wrote chunks _ (start meter)
    (record { words = refl; bytes = refl; meter = refl; room = kept; held = omega arith; line = refl }) room
    ∙ fed_output meter (joined chunks)
