-- `border::hub::puntclover_hub_fresh` meets its contract: the tests are the definition's, in its order; past them the crate `state` lays the numbers.
use native.Mathlib.Omega.{arith}
use Rattle.ground.proofs.Limits.{count_legal, count_low, count_high}
use Rattle.border.proofs.HubBorder.{fresh_count, fresh_length, fresh_right}
use Rattle.ground.proofs.Clauses.{heard_answer_table, told_answer_table}
use Rattle.border.proofs.hub.puntclover_hub_fresh.Goals as goal

pub returns-then-count-lt2 : goal.returns-then-count-lt2
returns-then-count-lt2 c =
    let args = c.args in
    rw c.number.ensures
    (told_answer_table (fresh_count args.table.now args.count args.me (λ i. omega (arith, c.type_inv.table i)) (count_low _ c.if-count-lt2.true)))

pub returns-then-count : goal.returns-then-count
returns-then-count c =
    let args = c.args in
    rw c.number-then-count.ensures
    (told_answer_table (fresh_count args.table.now args.count args.me (λ i. omega (arith, c.type_inv.table i)) (count_high _ c.if-count.true)))

pub returns-then-table-ne-TABLE_BYTES : goal.returns-then-table-ne-TABLE_BYTES
returns-then-table-ne-TABLE_BYTES c =
    let args = c.args in
    rw c.number-then-table-ne-TABLE_BYTES.ensures
    (told_answer_table (fresh_length args.table.now args.count args.me (count_legal _ c.if-count-lt2.false c.if-count.false) c.if-table-ne-TABLE_BYTES.true))

pub returns : goal.returns
returns c =
    let args = c.args in
    rw c.done.ensures
    (told_answer_table (fresh_right args.table.now args.count args.me _ _ _ _
    c.if-table-ne-TABLE_BYTES.false
    c.take_numbers.ensures
    (heard_answer_table c.fresh-answer.ensures)
    c.lay_numbers.ensures))
