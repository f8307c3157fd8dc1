-- `border::networks::answer` meets its contract: units of another length are unfit; else the call over the numbers is the call over the bytes.
use Rattle.border.specs.NetworkBytes.{call_told}
use Rattle.border.proofs.NetworkBorder.{wrong_units, right_units}
use Rattle.ground.proofs.Clauses.{heard_answer_numbers_queues, told_answer_units_queues}
use Rattle.border.proofs.networks.answer.Goals as goal

pub returns-then-units-ne-UNITS_BYTES : goal.returns-then-units-ne-UNITS_BYTES
returns-then-units-ne-UNITS_BYTES c =
    let args = c.args in
    rw c.number.ensures
    (told_answer_units_queues (wrong_units args.units.now args.queues.now (call_told args.call) c.if-units-ne-UNITS_BYTES.true))

pub returns : goal.returns
returns c =
    let args = c.args in
    rw c.done.ensures
    (told_answer_units_queues (right_units args.units.now args.queues.now (call_told args.call)
    c.if-units-ne-UNITS_BYTES.false
    c.take_numbers.ensures
    (heard_answer_numbers_queues c.tell-answer.ensures)
    c.lay_numbers.ensures))
