-- `meter::table::frame_in` meets its contract: the four numbers at the place, or nothing.
use mathlib.Core.Logic.{⊎_elim}
use mathlib.Core.Path.{ap, ◌∙◌}
use Rattle.meter.specs.Reading.{as_read}
use Rattle.meter.proofs.ReadFrames.{no_table, no_place, frame_read}
use Rattle.meter.proofs.table.frame_in.Goals as goal

pub returns-then-meter-ne-METER_WORDS : goal.returns-then-meter-ne-METER_WORDS
returns-then-meter-ne-METER_WORDS c =
    let args = c.args in
    c.nothing.ensures
    ∙ ap as_read (⊎_elim (no_table args.meter.now args.place) (λ both. no_place args.meter.now args.place both.0 both.1)
    c.then-meter-ne-METER_WORDS.either)

pub returns : goal.returns
returns c =
    let args = c.args in
    frame_read args.meter.now args.place c.if-meter-ne-METER_WORDS.false c.if-place-ge-FRAMES.false
