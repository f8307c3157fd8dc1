-- `border::networks::ask` meets its contract: units of another length are unfit; else the question is put to the numbers.
use Rattle.asking.specs.Asking.{asked_between}
use Rattle.border.proofs.Asking.{wrong_asked, right_asked}
use Rattle.border.proofs.networks.ask.Goals as goal

pub returns-then-units-ne-UNITS_BYTES : goal.returns-then-units-ne-UNITS_BYTES
returns-then-units-ne-UNITS_BYTES c =
    let args = c.args in
    rw c.number.ensures
    (wrong_asked args.units.now (λ words. asked_between args.question words args.queues.now args.i args.j) c.if-units-ne-UNITS_BYTES.true)

pub returns : goal.returns
returns c =
    let args = c.args in
    rw c.reached.ensures
    (right_asked args.units.now (λ words. asked_between args.question words args.queues.now args.i args.j)
    c.if-units-ne-UNITS_BYTES.false c.take_numbers.ensures c.asked.ensures.answer)
