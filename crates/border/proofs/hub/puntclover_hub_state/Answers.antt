-- `border::hub::puntclover_hub_state` meets its contract: a table of another length is unfit; else the question is put to the numbers.
use Rattle.rules.specs.Hub.{active_answer}
use Rattle.border.proofs.Asking.{wrong_asked, right_asked}
use Rattle.border.proofs.hub.puntclover_hub_state.Goals as goal

pub returns-then-table-ne-TABLE_BYTES : goal.returns-then-table-ne-TABLE_BYTES
returns-then-table-ne-TABLE_BYTES c = rw c.number.ensures (wrong_asked c.args.table.now active_answer c.if-table-ne-TABLE_BYTES.true)

pub returns : goal.returns
returns c =
    rw c.test.ensures
    (right_asked c.args.table.now active_answer
    c.if-table-ne-TABLE_BYTES.false c.take_numbers.ensures c.active.ensures)
