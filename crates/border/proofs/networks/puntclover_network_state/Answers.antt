-- `border::networks::puntclover_network_state` meets its contract: units of another length are unfit; else the question is put to the numbers.
use Rattle.rules.specs.NetworkTable.{state_answer}
use Rattle.border.proofs.Asking.{wrong_asked, right_asked}
use Rattle.border.proofs.networks.puntclover_network_state.Goals as goal

pub returns-then-units-ne-UNITS_BYTES : goal.returns-then-units-ne-UNITS_BYTES
returns-then-units-ne-UNITS_BYTES c =
    let args = c.args in
    rw c.number.ensures
    (wrong_asked args.units.now (λ words. state_answer words args.queues.now args.i) c.if-units-ne-UNITS_BYTES.true)

pub returns : goal.returns
returns c =
    let args = c.args in
    rw c.test.ensures
    (right_asked args.units.now (λ words. state_answer words args.queues.now args.i)
    c.if-units-ne-UNITS_BYTES.false c.take_numbers.ensures c.state.ensures)
