-- `meter::table::figure_in` meets its contract: each figure is what its own function finds.
use mathlib.Core.Path.{ap, ◌∙◌}
use Rattle.frames.specs.MeterTable.{figure_from, meter_from}
use Rattle.meter.proofs.ReadFrames.{no_figure, figure_told}
use Rattle.meter.specs.declared.table.Figure.TheVariants.{Entered, Delivered, Dropped, Held, Frames}
use Rattle.meter.proofs.table.figure_in.Goals as goal

pub returns-then-meter-ne-METER_WORDS : goal.returns-then-meter-ne-METER_WORDS
returns-then-meter-ne-METER_WORDS c =
    let args = c.args in
    no_figure args.meter.now args.which c.if-meter-ne-METER_WORDS.true

pub returns-in-Entered : goal.returns-in-Entered
unfolding meter_from
returns-in-Entered c =
    let meter = c.args.meter.now in
    figure_told meter c.if-meter-ne-METER_WORDS.false c.args.which Entered c.stored.result
    c.in-Entered.is
    (c.stored.ensures ∙ ap (figure_from meter) c.start_of.ensures)

pub returns-in-Delivered : goal.returns-in-Delivered
unfolding meter_from
returns-in-Delivered c =
    let meter = c.args.meter.now in
    figure_told meter c.if-meter-ne-METER_WORDS.false c.args.which Delivered c.stored-in-Delivered.result
    c.in-Delivered.is
    (c.stored-in-Delivered.ensures ∙ ap (figure_from meter) c.start_of-in-Delivered.ensures)

pub returns-in-Dropped : goal.returns-in-Dropped
unfolding meter_from
returns-in-Dropped c =
    let meter = c.args.meter.now in
    figure_told meter c.if-meter-ne-METER_WORDS.false c.args.which Dropped c.stored-in-Dropped.result
    c.in-Dropped.is
    (c.stored-in-Dropped.ensures ∙ ap (figure_from meter) c.start_of-in-Dropped.ensures)

pub returns-in-Held : goal.returns-in-Held
returns-in-Held c =
    figure_told c.args.meter.now c.if-meter-ne-METER_WORDS.false c.args.which Held
    c.held_bytes.result c.in-Held.is c.held_bytes.ensures

pub returns-in-Frames : goal.returns-in-Frames
returns-in-Frames c =
    figure_told c.args.meter.now c.if-meter-ne-METER_WORDS.false c.args.which Frames
    c.held_frames.result c.in-Frames.is c.held_frames.ensures
