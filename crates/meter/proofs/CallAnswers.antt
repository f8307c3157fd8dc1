-- Answers of the meter's calls: a table after bytes are counted or a place is freed, and the answer and the table of each call by
-- the tests that led there.
use Prim.Native.Nat.{ℕ, suc, ◌+◌, ◌≤◌, ◌<◌}
use native.Mathlib.Numerals.{add-one}
use native.Mathlib.Omega.{arith}
use mathlib.Core.Bool.{true, false}
use mathlib.Core.List.{List}
use mathlib.Core.Logic.{◌≢◌}
use mathlib.Core.Path.{◌≡◌, refl, sym, ap, ◌∙◌}
use borrow.Author.Tests.{eq-eqb, ne_eqb, lt-ltb, le-ltb}
use lib.Dec.{eqb}
use lib.ListN.{length}
use Rattle.std.specs.Prelude.{Result, Ok, Err, IfOk}
use Rattle.ground.specs.Limits.{frame_limit, hop_limit}
use Rattle.ground.specs.Refusal.{accepted, answer_base}
use Rattle.ground.specs.Refused.{number_of}
use Rattle.ground.specs.declared.refusals.Refusal.{Refusal}
use Rattle.ground.proofs.Answers.{number_some}
use Rattle.ground.proofs.Tests.{if_true, if_false}
use Rattle.frames.specs.Meter.{Frame, no_frame, Meter, frame_at, free_place, with_frame}
use Rattle.frames.specs.Meter.{counts_entered, counts_delivered, counts_dropped}
use Rattle.frames.specs.Meter.{MeterCall, enters, moves, drops, fate, new_frame, settled, metered}
use Rattle.frames.specs.MeterTable.{delivered_at, meter_words, figure_from, laid_meter, meter_from, fate_number}
use Rattle.frames.specs.MeterTable.{meter_refusal, meter_answer, meter_after}
use Rattle.frames.proofs.LaidMeter.{frames_length, meter_reads_back, length_laid_meter}
use Rattle.meter.specs.Fates.{fate_of, HeldInside}
use Rattle.meter.specs.Reading.{as_read, frame_of, counts}
use Rattle.meter.specs.declared.calls.Fate.{Fate}
use Rattle.meter.specs.declared.calls.Fate.TheVariants.{Held, Delivered as FoundDelivered, Dropped as FoundDropped}
use Rattle.meter.specs.declared.table.Frame.{Frame as FrameRead}
use Rattle.meter.specs.declared.table.Sum.{Sum}
use Rattle.meter.specs.declared.table.Sum.TheVariants.{Entered, Delivered, Dropped}
use Rattle.meter.proofs.Refusals.{entered_inside, moved_inside}

-- Counting keeps the places.
counts_frames : (sum : Sum) (size : ℕ) (meter : Meter) → (counts sum size meter).frames ≡ meter.frames
counts_frames Entered size meter = refl
counts_frames Delivered size meter = refl
counts_frames Dropped size meter = refl

module _ (sum : Sum) (size : ℕ) (before : List ℕ) where
  -- The meter of a table with bytes counted has all places.
  all_places : length (counts sum size (meter_from before)).frames ≡ frame_limit
  all_places = ap length (counts_frames sum size (meter_from before)) ∙ frames_length before

  -- Its table has its length.
  pub counted_long : (after : List ℕ) → after ≡ laid_meter (counts sum size (meter_from before)) → length after ≡ meter_words
  counted_long after e = ap length e ∙ length_laid_meter (counts sum size (meter_from before)) all_places

  -- It reads back from its table.
  pub counted_back : (after : List ℕ) → after ≡ laid_meter (counts sum size (meter_from before))
      → meter_from after ≡ counts sum size (meter_from before)
  counted_back after e = ap meter_from e ∙ meter_reads_back (counts sum size (meter_from before)) all_places

  -- The place of a frame that ends is freed after that.
  pub counted_freed : (place : ℕ) (frame : FrameRead) (after last : List ℕ) → frame ≡ as_read no_frame
      → after ≡ laid_meter (counts sum size (meter_from before))
      → last ≡ laid_meter (with_frame (meter_from after) place (frame_of frame))
      → last ≡ laid_meter (with_frame (counts sum size (meter_from before)) place no_frame)
  counted_freed place frame after last none e p =
      p
      ∙ ap (λ (put : FrameRead). laid_meter (with_frame (meter_from after) place (frame_of put))) none
      ∙ ap (λ (meter : Meter). laid_meter (with_frame meter place no_frame)) (counted_back after e)

-- What was delivered stays while bytes enter.
pub still_delivered : (size : ℕ) (before after : List ℕ) → after ≡ laid_meter (counts_entered size (meter_from before))
    → figure_from after delivered_at ≡ figure_from before delivered_at
unfolding meter_from
still_delivered size before after e = ap (λ (meter : Meter). meter.delivered) (counted_back Entered size before after e)

module _ (words bytes meter : List ℕ) where
  -- What a call promises of its answer and of the table that it leaves.
  abbrev pub Answered : MeterCall → Result Fate Refusal → (after : List ℕ) → Type 0
  Answered call said after =
      record {
        answer : fate_of said ≡ meter_answer words bytes meter call;
        inside : IfOk said (λ found. HeldInside found);
        meter : after ≡ meter_after words bytes meter call;
      }

  -- A refusal is the answer, and changes nothing.
  pub answers_refusal : (call : MeterCall) (refusal : Refusal) → number_of refusal ≡ meter_refusal words bytes meter call
      → Answered call (Err refusal) meter
  unfolding meter_answer meter_after
  answers_refusal call refusal e =
      let refused : eqb (meter_refusal words bytes meter call) accepted ≡ false =
      ne_eqb (meter_refusal words bytes meter call) accepted (λ none. number_some refusal (e ∙ none)) in
      record { answer = e ∙ sym (if_false _ _ _ refused); inside = tt; meter = sym (if_false _ _ _ refused) }

  -- What is not refused answers what became of its frame, and leaves the rules' meter.
  answers : (call : MeterCall) → meter_refusal words bytes meter call ≡ accepted → (found : Fate) {after : List ℕ}
      → HeldInside found → fate_of (Ok found) ≡ fate_number (fate (meter_from meter) call)
      → after ≡ laid_meter (metered (meter_from meter) call)
      → Answered call (Ok found) after
  unfolding meter_answer meter_after
  answers call none found inside p q =
      let free : eqb (meter_refusal words bytes meter call) accepted ≡ true =
      eq-eqb (meter_refusal words bytes meter call) accepted none in
      record { answer = p ∙ sym (if_true _ _ _ free); inside = inside; meter = q ∙ sym (if_true _ _ _ free) }

  module _ (size unit destination : ℕ) (none : meter_refusal words bytes meter (enters size unit destination) ≡ accepted)
      (entered : List ℕ) (come : entered ≡ laid_meter (counts_entered size (meter_from meter))) where
    -- A frame that enters at its destination is delivered at once.
    pub entered_there : unit ≡ destination → (after : List ℕ) → after ≡ laid_meter (counts_delivered size (meter_from entered))
        → Answered (enters size unit destination) (Ok FoundDelivered) after
    unfolding fate metered
    entered_there same after e =
        let there = eq-eqb unit destination same in
        answers (enters size unit destination) none FoundDelivered tt
        (sym (ap fate_number (if_true _ _ _ there)))
        (e
        ∙ ap (λ (m : Meter). laid_meter (counts_delivered size m)) (counted_back Entered size meter entered come)
        ∙ sym (ap laid_meter (if_true _ _ _ there)))

    -- Else it stands at the lowest free place.
    pub entered_elsewhere : unit ≢ destination → (place : ℕ) → place ≡ free_place (meter_from meter) → (after : List ℕ)
        → after ≡ laid_meter (with_frame (meter_from entered) place (new_frame size unit destination))
        → Answered (enters size unit destination) (Ok (Held place)) after
    unfolding fate metered
    entered_elsewhere other place free after e =
        let there = ne_eqb unit destination other in
        let frame = new_frame size unit destination in
        answers (enters size unit destination) none (Held place)
        (entered_inside words bytes meter size unit destination none free)
        (ap (λ n. answer_base + n) free ∙ sym (ap fate_number (if_false _ _ _ there)))
        (e
        ∙ ap (λ n. laid_meter (with_frame (meter_from entered) n frame)) free
        ∙ ap (λ (m : Meter). laid_meter (with_frame m (free_place (meter_from meter)) frame))
        (counted_back Entered size meter entered come)
        ∙ sym (ap laid_meter (if_false _ _ _ there)))

  -- The frame at a place, as it is read.
  module _ (place : ℕ) (found : FrameRead) (read : found ≡ as_read (frame_at (meter_from meter) place)) where
    -- The frame itself.
    abbrev frame : Frame
    frame = frame_at (meter_from meter) place

    -- A move, which leaves a table.
    module _ (unit : ℕ) (none : meter_refusal words bytes meter (moves place unit) ≡ accepted) (after : List ℕ) where
      -- A frame that moves to its destination is delivered.
      pub moved_there : unit ≡ found.destination
          → after ≡ laid_meter (with_frame (counts_delivered found.size (meter_from meter)) place no_frame)
          → Answered (moves place unit) (Ok FoundDelivered) after
      unfolding fate metered settled
      moved_there same e =
          let there = eq-eqb unit frame.destination (same ∙ ap (λ (r : FrameRead). r.destination) read) in
          let left =
          e ∙ ap (λ (r : FrameRead). laid_meter (with_frame (counts_delivered r.size (meter_from meter)) place no_frame)) read in
          answers (moves place unit) none FoundDelivered tt (sym (rw there)) (left ∙ sym (rw there))

      module _ (other : unit ≢ found.destination) where
        -- The test of the destination fails.
        elsewhere : eqb unit frame.destination ≡ false
        elsewhere =
            ne_eqb unit frame.destination (λ same. other (same ∙ sym (ap (λ (r : FrameRead). r.destination) read)))

        -- At its last hop it is dropped.
        pub moved_last : hop_limit ≤ found.hops + 1
            → after ≡ laid_meter (with_frame (counts_dropped found.size (meter_from meter)) place no_frame)
            → Answered (moves place unit) (Ok FoundDropped) after
        unfolding fate metered settled
        moved_last h e =
            let hops : found.hops ≡ frame.hops = ap (λ (r : FrameRead). r.hops) read in
            let last = le-ltb (suc frame.hops) hop_limit (omega arith) in
            let left =
            e ∙ ap (λ (r : FrameRead). laid_meter (with_frame (counts_dropped r.size (meter_from meter)) place no_frame)) read in
            answers (moves place unit) none FoundDropped tt (sym (rw (elsewhere, last))) (left ∙ sym (rw (elsewhere, last)))

        -- Else it stands at the unit, one hop further.
        pub moved_onward : found.hops + 1 < hop_limit
            → after
            ≡ laid_meter (with_frame (meter_from meter) place
            (record { size = found.size; unit = unit; destination = found.destination; hops = found.hops + 1 }))
            → Answered (moves place unit) (Ok (Held place)) after
        unfolding fate metered settled
        moved_onward h e =
            let hops : found.hops ≡ frame.hops = ap (λ (r : FrameRead). r.hops) read in
            let onward = lt-ltb (suc frame.hops) hop_limit (omega arith) in
            let left =
            e
            ∙ ap (λ (r : FrameRead).
            laid_meter (with_frame (meter_from meter) place
            (record { size = r.size; unit = unit; destination = r.destination; hops = r.hops + 1 }))) read
            ∙ ap (λ n.
            laid_meter (with_frame (meter_from meter) place
            (record { size = frame.size; unit = unit; destination = frame.destination; hops = n }))) (add-one frame.hops) in
            answers (moves place unit) none (Held place) (moved_inside words bytes meter place unit none)
            (sym (rw (elsewhere, onward))) (left ∙ sym (rw (elsewhere, onward)))

    -- A frame that is dropped.
    pub dropped_now : meter_refusal words bytes meter (drops place) ≡ accepted → (after : List ℕ)
        → after ≡ laid_meter (with_frame (counts_dropped found.size (meter_from meter)) place no_frame)
        → Answered (drops place) (Ok FoundDropped) after
    unfolding fate metered settled
    dropped_now none after e =
        answers (drops place) none FoundDropped tt refl
        (e ∙ ap (λ (r : FrameRead). laid_meter (with_frame (counts_dropped r.size (meter_from meter)) place no_frame)) read)
