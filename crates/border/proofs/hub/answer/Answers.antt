-- `border::hub::answer` meets its contract: a table of another length is unfit; else the call over the numbers is the call over the bytes.
use Rattle.unit.specs.Calls.{call_of}
use Rattle.border.proofs.HubBorder.{wrong_length, right_length}
use Rattle.ground.proofs.Clauses.{told_answer_table_sent}
use Rattle.border.proofs.hub.answer.Goals as goal

pub returns-then-table-ne-TABLE_BYTES : goal.returns-then-table-ne-TABLE_BYTES
returns-then-table-ne-TABLE_BYTES c =
    let args = c.args in
    rw c.number.ensures
    (told_answer_table_sent (wrong_length args.table.now args.out.now (call_of args.call args.bytes.now) c.if-table-ne-TABLE_BYTES.true))

pub returns : goal.returns
returns c =
    let args = c.args in
    rw c.length.ensures
    (told_answer_table_sent (right_length args.table.now args.out.now (call_of args.call args.bytes.now) _ _ _ _ _
    c.if-table-ne-TABLE_BYTES.false
    c.take_numbers.ensures
    (c.answer-answer.ensures.answer, (c.answer-answer.ensures.table, c.answer-answer.ensures.sent))
    c.lay_numbers.ensures))
