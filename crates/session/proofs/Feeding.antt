-- A loop that feeds turn by turn is done where there is no going on.
use Prim.Native.Nat.{ℕ, ◌≤◌, max}
use native.Mathlib.Omega.{arith}
use mathlib.Core.Bool.{Bool, false}
use mathlib.Core.List.{List, [], ◌∷◌}
use mathlib.Core.Logic.{◌≢◌}
use mathlib.Core.Path.{◌≡◌, refl, sym, ap, ◌∙◌}
use borrow.Author.Tests.{eq-eqb, ne_eqb}
use lib.Dec.{eqb}
use lib.ListN.{length, take, drop, drop_of_length-le}
use lib.Seq.{length-sets}
use Rattle.ground.specs.Bytes.{newline}
use Rattle.std.specs.Prelude.{if◌then◌else◌}
use Rattle.ground.proofs.Choices.{by_choice}
use Rattle.ground.proofs.Tests.{if_false}
use Rattle.slices.specs.Putting.{put_after}
use Rattle.script.specs.Answers.{answer_text}
use Rattle.session.specs.Feeding.{end_of}
use Rattle.session.specs.Lending.{Lent, goes_on, is_ready, answered, kept, fed, reached_in, feeding}
use Rattle.session.specs.declared.Reached.{Reached}

-- What is used stays within the buffer, which keeps its room.
abbrev Within : (lent next : Lent) → Type 0
Within lent next = (next.used ≤ max lent.used (length lent.out)) × (length next.out ≡ length lent.out)

byte_within : (lent : Lent) (byte : ℕ) → Within lent (if eqb byte newline then answered lent else kept lent byte)
unfolding answered kept put_after
byte_within lent byte =
    by_choice (Within lent) (eqb byte newline) (answered lent) (kept lent byte)
    (λ ends.
    let text = answer_text lent.words lent.bytes lent.meter (take lent.held lent.line) in
    (omega arith, length-sets lent.out lent.used text))
    (λ other. (omega arith, refl))

fed_within : (input : List ℕ) (lent : Lent) → Within lent (fed lent input)
unfolding fed
fed_within [] lent = (omega arith, refl)
fed_within (byte ∷ input) lent =
    by_choice (Within lent) (is_ready lent) (fed (if eqb byte newline then answered lent else kept lent byte) input) lent
    (λ ready.
    let one = byte_within lent byte in
    let more = fed_within input (if eqb byte newline then answered lent else kept lent byte) in
    (omega (arith, one.0, one.1, more.0), more.1 ∙ one.1))
    (λ full. (omega arith, refl))

-- Where there is no going on, or no byte, nothing is taken.
fed_full : (input : List ℕ) (lent : Lent) → is_ready lent ≡ false → fed lent input ≡ lent
unfolding fed
fed_full [] lent full = refl
fed_full (byte ∷ input) lent full = if_false (is_ready lent) _ lent full

module _ (words bytes meter line : List ℕ) (held : ℕ) (chunk : List ℕ) (place : ℕ) (out : List ℕ) (used : ℕ)
    (words' bytes' meter' line' out' : List ℕ) (reached : Reached) where
  -- What is lent now.
  abbrev lent_now : Lent
  lent_now =
      record {
        words = words';
        bytes = bytes';
        meter = meter';
        line = line';
        held = reached.held;
        out = out';
        used = reached.used;
        place = reached.place;
      }

  abbrev all : Lent
  all = feeding words bytes meter line held chunk place out used

  -- It is what was to come.
  abbrev pub Done : Type 0
  Done =
      (reached ≡ reached_in all)
      × ((words' ≡ all.words)
      × ((bytes' ≡ all.bytes)
      × ((meter' ≡ all.meter)
      × ((line' ≡ all.line) × ((out' ≡ all.out) × (reached.used ≤ max used (length out')))))))

  done_is : lent_now ≡ all → Done
  done_is e =
      let lent : Lent =
      record {
        words = words;
        bytes = bytes;
        meter = meter;
        line = line;
        held = held;
        out = out;
        used = used;
        place = place;
      } in
      let within = fed_within (drop place chunk) lent in
      let same : reached.used ≡ all.used = ap (λ l. l.used) e in
      let long : length out' ≡ length all.out = ap (λ l. length l.out) e in (
        ap reached_in e,
        (
          ap (λ l. l.words) e,
          (
            ap (λ l. l.bytes) e,
            (
              ap (λ l. l.meter) e,
              (ap (λ l. l.line) e, (ap (λ l. l.out) e, omega (arith, within.0, within.1))),
            ),
          ),
        ),
      )

  module _ (same : feeding words' bytes' meter' line' reached.held chunk reached.place out' reached.used ≡ all) where
    pub done_full : {goes : Bool} → goes ≡ goes_on (length line') reached.held (length out') reached.used → goes ≡ false
        → Done
    done_full told full = done_is (sym (fed_full (drop reached.place chunk) lent_now (sym told ∙ full)) ∙ same)

    pub done_whole : length chunk ≤ reached.place → Done
    unfolding fed
    done_whole past = done_is (ap (fed lent_now) (sym (drop_of_length-le chunk {i = reached.place} past)) ∙ same)

-- The end of the input, where a byte is held.
end_some : (held : ℕ) → held ≢ 0 → end_of held ≡ newline ∷ []
unfolding end_of
end_some held some = rw (ne_eqb held 0 some)

-- The end of the input: no byte is held, or the line is ended by a newline.
module _ (words bytes meter line : List ℕ) (held : ℕ) (out : List ℕ) (used : ℕ) where
  pub finish_none : held ≡ 0
      → Done words bytes meter line held (end_of held) 0 out used words bytes meter line out
      (record { place = 0; held = held; used = used })
  unfolding end_of
  finish_none none =
      done_whole words bytes meter line held (end_of held) 0 out used words bytes meter line out _ refl
      (rw (eq-eqb held 0 none) (omega arith))

  pub finish_some : held ≢ 0 → {words' bytes' meter' line' out' : List ℕ} {reached : Reached}
      → Done words bytes meter line held (newline ∷ []) 0 out used words' bytes' meter' line' out' reached
      → Done words bytes meter line held (end_of held) 0 out used words' bytes' meter' line' out' reached
  finish_some some done = rw (end_some held some) done
