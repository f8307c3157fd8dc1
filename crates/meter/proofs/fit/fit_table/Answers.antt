-- `meter::fit::fit_table` meets its contract: the length, each place, and the figures, in the definition's order.
use mathlib.Core.Bool.{true≢false}
use mathlib.Core.Path.{sym, ◌∙◌}
use borrow.Author.Tests.{ne_eqb}
use Rattle.frames.specs.MeterTable.{meter_words}
use Rattle.meter.proofs.MeterFit.{wrong_length, place_unfit, figures_decide}
use Rattle.meter.proofs.fit.fit_table.Goals as goal
use Rattle.meter.proofs.fit.fit_table.Goals.{then-meter-eq-METER_WORDS, else-meter-eq-METER_WORDS}

pub returns-then-fit_frames : goal.returns-then-fit_frames
returns-then-fit_frames c =
    let args = c.args in
    elim c.if-meter-eq-METER_WORDS.branch [
      | then-meter-eq-METER_WORDS w ↦
          figures_decide args.count args.meter.now w.if-meter-eq-METER_WORDS.true
          (sym w.fit_frames.ensures ∙ sym w.value-is ∙ c.if-fit_frames.true)
          c.figure_in.ensures c.figure_in-then-fit_frames.ensures c.figure_in-then-fit_frames-2.ensures
          c.figure_in-then-fit_frames-3.ensures c.adds_up.ensures
      | else-meter-eq-METER_WORDS w ↦ absurd (true≢false (sym c.if-fit_frames.true ∙ w.value-is ∙ ne_eqb _ meter_words w.if-meter-eq-METER_WORDS.false))
    ]

pub returns-else-fit_frames : goal.returns-else-fit_frames
returns-else-fit_frames c =
    let args = c.args in
    elim c.if-meter-eq-METER_WORDS.branch [
      | then-meter-eq-METER_WORDS w ↦
          c.if-fit_frames.false
          ∙ place_unfit args.count args.meter.now w.if-meter-eq-METER_WORDS.true
          (sym w.fit_frames.ensures ∙ sym w.value-is ∙ c.if-fit_frames.false)
      | else-meter-eq-METER_WORDS w ↦
          c.if-fit_frames.false ∙ wrong_length args.count args.meter.now w.if-meter-eq-METER_WORDS.false
    ]
