-- `state::held::unit_in` meets its contract: each return by the test that led there.
use native.Mathlib.Omega.{arith}
use mathlib.Core.Path.{sym, ◌∙◌}
use Rattle.state.proofs.Tables.{none_long, none_counted, held-from}
use Rattle.state.proofs.held.unit_in.Goals as goal

pub returns-then-table-ne-UNIT_WORDS : goal.returns-then-table-ne-UNIT_WORDS
returns-then-table-ne-UNIT_WORDS c = c.no_unit.ensures ∙ sym (none_long _ c.if-table-ne-UNIT_WORDS.true)

pub overflow_cast-table : goal.overflow_cast-table
overflow_cast-table c = omega (arith, c.type_inv.table 0)

pub returns-then-table-gt-UNITS : goal.returns-then-table-gt-UNITS
returns-then-table-gt-UNITS c = c.no_unit-then-table-gt-UNITS.ensures ∙ sym (none_counted _ c.if-table-gt-UNITS.true)

pub returns : goal.returns
returns c =
    c.load.ensures ∙ sym (held-from _ c.if-table-ne-UNIT_WORDS.false c.if-table-gt-UNITS.false)
