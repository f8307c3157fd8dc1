-- `border::meters::answer` meets its contract: tables of another length are unfit; else the call over the numbers is the call
-- over the bytes.
use Rattle.border.specs.MeterBytes.{frame_told}
use Rattle.border.proofs.MeterBorder.{units_refused, meter_refused, both_told}
use Rattle.ground.proofs.Clauses.{told_answer_meter}
use Rattle.border.proofs.meters.answer.Goals as goal

pub returns-then-units-ne-UNITS_BYTES : goal.returns-then-units-ne-UNITS_BYTES
returns-then-units-ne-UNITS_BYTES c =
    let args = c.args in
    rw c.number.ensures
    (told_answer_meter (units_refused args.units.now args.meter.now args.queues.now (frame_told args.call) c.if-units-ne-UNITS_BYTES.true))

pub returns-then-meter-ne-METER_BYTES : goal.returns-then-meter-ne-METER_BYTES
returns-then-meter-ne-METER_BYTES c =
    let args = c.args in
    rw c.number-then-meter-ne-METER_BYTES.ensures
    (told_answer_meter (meter_refused args.units.now args.meter.now args.queues.now (frame_told args.call)
    c.if-units-ne-UNITS_BYTES.false c.if-meter-ne-METER_BYTES.true))

pub returns : goal.returns
returns c =
    let args = c.args in
    rw c.fate.ensures
    (told_answer_meter (both_told args.units.now args.meter.now args.queues.now (frame_told args.call)
    c.if-units-ne-UNITS_BYTES.false c.if-meter-ne-METER_BYTES.false
    c.take_numbers.ensures
    c.take_numbers-2.ensures
    (c.tell-answer.ensures.answer, c.tell-answer.ensures.table)
    c.lay_numbers.ensures))
