-- The answers to questions of a meter: what refuses one, what is answered else, and that no answer is too large.
use Prim.Native.Nat.{ℕ, ◌+◌, ◌≤◌}
use native.Mathlib.Omega.{arith}
use mathlib.Core.Bool.{true, false, not, ◌&&◌}
use mathlib.Core.List.{List}
use mathlib.Core.Path.{◌≡◌, refl, sym, ap, ◌∙◌}
use borrow.Author.Tests.{ltb-true, leb-true}
use lib.Dec.{eqb, ltb, leb}
use Rattle.std.specs.Prelude.{Some, None, if◌then◌else◌}
use Rattle.ground.specs.Limits.{unit_limit, frame_limit, highest_size, hop_limit, entered_limit}
use Rattle.ground.specs.Refusal.{answer_base}
use Rattle.ground.specs.Rows.{at}
use Rattle.ground.proofs.Choices.{by_choice}
use Rattle.ground.proofs.Lists.{parts}
use Rattle.ground.proofs.Tests.{if_true}
use Rattle.ground.proofs.Totals.{total_most}
use Rattle.rules.specs.Hub.{hub_answer}
use Rattle.fitness.proofs.SuccessorSets.{fit_sized}
use Rattle.frames.specs.Meter.{Frame, is_held, frame_at, fit_frame}
use Rattle.frames.specs.MeterTable.{meter_from, fit_metered, figure_answer, frame_refusal}
use Rattle.frames.specs.MeterTable.{entered_answer, delivered_answer, dropped_answer, held_answer, frames_answer}
use Rattle.frames.specs.MeterTable.{size_answer, unit_answer, destination_answer, hops_answer}
use Rattle.meter.specs.Reading.{as_read, frame_of, held_in, figure_of, figure_in, figure_asked, field_of, field_asked}
use Rattle.meter.specs.declared.questions.Field.{Field}
use Rattle.meter.specs.declared.questions.Field.TheVariants.{Size, Unit, Destination, Hops}
use Rattle.meter.specs.declared.table.Figure.{Figure}
use Rattle.meter.specs.declared.table.Figure.TheVariants.{Entered, Delivered, Dropped, Held, Frames}
use Rattle.meter.specs.declared.table.Frame.{Frame as FrameRead}
use Rattle.meter.proofs.AddsUp.{each_most}
use Rattle.meter.proofs.MeterFit.{Fitted, metered_network, metered_table}
use Rattle.meter.proofs.ReadFrames.{held_there, free_there, figure_there}

-- A number of a fit frame is at most the largest size.
field_most : (n : ℕ) (frame : Frame) → is_held frame ≡ true → n ≤ unit_limit → fit_frame n frame ≡ true
    → (which : Field) → field_of which frame ≤ highest_size
unfolding fit_frame
field_most n frame held count fits which = most which
  where
    tests : (leb 1 frame.size && leb frame.size highest_size)
        && ltb frame.unit n
        && ltb frame.destination n
        && not (eqb frame.unit frame.destination)
        && ltb frame.hops hop_limit
        ≡ true
    tests = sym (if_true (is_held frame) _ _ held) ∙ fits

    most : (which : Field) → field_of which frame ≤ highest_size
    most Size = leb-true frame.size highest_size (search (parts, tests))
    most Unit = omega (arith, ltb-true frame.unit n (search (parts, tests)))
    most Destination = omega (arith, ltb-true frame.destination n (search (parts, tests)))
    most Hops = omega (arith, ltb-true frame.hops hop_limit (search (parts, tests)))

module _ (words bytes meter : List ℕ) where
  -- All questions for a figure are answered alike.
  figure_alike : (which : Figure)
      → figure_asked which words bytes meter ≡ figure_answer words bytes meter (figure_of which (meter_from meter))
  unfolding entered_answer delivered_answer dropped_answer held_answer frames_answer
  figure_alike Entered = refl
  figure_alike Delivered = refl
  figure_alike Dropped = refl
  figure_alike Held = refl
  figure_alike Frames = refl

  -- So are all for a number of a frame.
  field_alike : (which : Field) (place : ℕ)
      → field_asked which words bytes meter place
      ≡ hub_answer (frame_refusal words bytes meter place) (field_of which (frame_at (meter_from meter) place))
  unfolding size_answer unit_answer destination_answer hops_answer
  field_alike Size place = refl
  field_alike Unit place = refl
  field_alike Destination place = refl
  field_alike Hops place = refl

  -- Tables that are not fit refuse every question.
  module _ (unfit : fit_metered words bytes meter ≡ false) where
    pub figure_unfit : (which : Figure) → 2 ≡ figure_asked which words bytes meter
    figure_unfit which = sym (figure_alike which ∙ rw unfit)

    pub field_unfit : (which : Field) (place : ℕ) → 2 ≡ field_asked which words bytes meter place
    field_unfit which place = sym (field_alike which place ∙ rw unfit)

  module _ (fit : fit_metered words bytes meter ≡ true) where
    -- What the meter's table has.
    fitted : Fitted (at words 0) meter
    fitted = metered_table words bytes meter fit

    -- No figure of its meter is above what may enter.
    figure_most : (which : Figure) → figure_of which (meter_from meter) ≤ entered_limit
    figure_most Entered = fitted.few
    figure_most Delivered = (each_most _ _ _ fitted.few fitted.sum).0
    figure_most Dropped = (each_most _ _ _ fitted.few fitted.sum).1
    figure_most Held = (each_most _ _ _ fitted.few fitted.sum).2
    figure_most Frames =
        omega (
          arith,
          total_most frame_limit 1 (λ place. if is_held (frame_at (meter_from meter) place) then 1 else 0)
              (λ place l.
              by_choice (λ (n : ℕ). n ≤ 1) (is_held (frame_at (meter_from meter) place)) 1 0 (λ t. omega arith) (λ t. omega arith)),
        )

    -- Nor is a figure that was read.
    pub figure_small : (which : Figure) {value : ℕ} → value ≡ figure_in which meter → value ≤ entered_limit
    figure_small which e = omega (arith, figure_most which, figure_there meter fitted.long which)

    -- It is answered.
    pub figure_answered : (which : Figure) {value : ℕ} → value ≡ figure_in which meter
        → answer_base + value ≡ figure_asked which words bytes meter
    figure_answered which e =
        ap (λ (n : ℕ). answer_base + n) (e ∙ figure_there meter fitted.long which)
        ∙ sym (figure_alike which ∙ rw fit)

    module _ (place : ℕ) where
      -- A place that is free refuses every question.
      pub field_free : (which : Field) → None ≡ held_in meter place → 16 ≡ field_asked which words bytes meter place
      field_free which e = sym (field_alike which place ∙ rw (fit, free_there meter place fitted.long e))

      module _ (frame : FrameRead) (found : Some frame ≡ held_in meter place) (which : Field) {value : ℕ}
          (read : value ≡ field_of which (frame_of frame)) where
        -- A place that holds a frame: it is the meter's.
        there : (is_held (frame_at (meter_from meter) place) ≡ true) × (frame ≡ as_read (frame_at (meter_from meter) place))
        there = held_there meter place fitted.long frame found

        -- The number that was read is the meter's frame's.
        read_there : value ≡ field_of which (frame_at (meter_from meter) place)
        read_there = read ∙ ap (λ (f : FrameRead). field_of which (frame_of f)) there.1

        -- No number of it is above the largest size.
        pub field_small : value ≤ highest_size
        field_small =
            let count = (fit_sized words bytes (metered_network words bytes meter fit)).high in
            omega (
              arith,
              read_there,
              field_most (at words 0) (frame_at (meter_from meter) place) there.0 count (fitted.each place) which,
            )

        -- It is answered.
        pub field_answered : answer_base + value ≡ field_asked which words bytes meter place
        field_answered = ap (λ (n : ℕ). answer_base + n) read_there ∙ sym (field_alike which place ∙ rw (fit, there.0))
