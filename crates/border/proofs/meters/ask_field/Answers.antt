-- `border::meters::ask_field` meets its contract: tables of another length are unfit; else the question is put to the numbers.
use Rattle.meter.specs.Reading.{field_asked}
use Rattle.border.proofs.MeterBorder.{units_unasked, meter_unasked, both_asked}
use Rattle.border.proofs.meters.ask_field.Goals as goal

pub returns-then-units-ne-UNITS_BYTES : goal.returns-then-units-ne-UNITS_BYTES
returns-then-units-ne-UNITS_BYTES c =
    let args = c.args in
    rw c.number.ensures
    (units_unasked args.units.now args.meter.now
    (λ words table. field_asked args.which words args.queues.now table args.frame)
    c.if-units-ne-UNITS_BYTES.true)

pub returns-then-meter-ne-METER_BYTES : goal.returns-then-meter-ne-METER_BYTES
returns-then-meter-ne-METER_BYTES c =
    let args = c.args in
    rw c.number-then-meter-ne-METER_BYTES.ensures
    (meter_unasked args.units.now args.meter.now
    (λ words table. field_asked args.which words args.queues.now table args.frame)
    c.if-units-ne-UNITS_BYTES.false c.if-meter-ne-METER_BYTES.true)

pub returns : goal.returns
returns c =
    let args = c.args in
    rw c.field.ensures
    (both_asked args.units.now args.meter.now
    (λ words table. field_asked args.which words args.queues.now table args.frame)
    c.if-units-ne-UNITS_BYTES.false c.if-meter-ne-METER_BYTES.false
    c.take_numbers.ensures
    c.take_numbers-2.ensures
    c.ask_field.ensures.answer)
