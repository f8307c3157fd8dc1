-- `state::held::put_unit` meets its contract: each return by the test that led there.
use mathlib.Core.Path.{sym, ◌∙◌}
use Rattle.state.proofs.Tables.{stays_long, stays_counted, stays_placed, laid-over}
use Rattle.state.proofs.held.put_unit.Goals as goal

pub returns-then-table-ne-UNIT_WORDS : goal.returns-then-table-ne-UNIT_WORDS
returns-then-table-ne-UNIT_WORDS c =
    let args = c.args in
    sym (stays_long args.table.now args.unit args.successors c.if-table-ne-UNIT_WORDS.true)

pub returns-then-unit-gt-UNITS : goal.returns-then-unit-gt-UNITS
returns-then-unit-gt-UNITS c =
    let args = c.args in
    sym (stays_counted args.table.now args.unit args.successors c.if-unit-gt-UNITS.true)

pub returns-then-unit-gt-UNITS-2 : goal.returns-then-unit-gt-UNITS-2
returns-then-unit-gt-UNITS-2 c =
    let args = c.args in
    sym (stays_placed args.table.now args.unit args.successors c.if-unit-gt-UNITS-2.true)

pub returns : goal.returns
returns c =
    let args = c.args in
    c.lay.ensures
    ∙ sym
    (laid-over args.table.now args.unit args.successors c.if-table-ne-UNIT_WORDS.false c.if-unit-gt-UNITS.false
    c.if-unit-gt-UNITS-2.false)
