-- `border::hub::ask` meets its contract: a table of another length is unfit; else the question is put to the numbers.
use Rattle.state.specs.Asked.{asked_of}
use Rattle.border.proofs.Asking.{wrong_asked, right_asked}
use Rattle.border.proofs.hub.ask.Goals as goal

pub returns-then-table-ne-TABLE_BYTES : goal.returns-then-table-ne-TABLE_BYTES
returns-then-table-ne-TABLE_BYTES c =
    let args = c.args in
    rw c.number.ensures
    (wrong_asked args.table.now (λ words. asked_of args.question words args.to) c.if-table-ne-TABLE_BYTES.true)

pub returns : goal.returns
returns c =
    let args = c.args in
    rw c.reached.ensures
    (right_asked args.table.now (λ words. asked_of args.question words args.to)
    c.if-table-ne-TABLE_BYTES.false c.take_numbers.ensures c.ask.ensures.answer)
