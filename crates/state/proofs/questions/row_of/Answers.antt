-- `state::questions::row_of` meets its contract. The unit that was loaded is the table's, and the sets are read as they stand.
use native.Mathlib.Omega.{arith}
use mathlib.Core.Bool.{true, false}
use mathlib.Core.Path.{◌≡◌, sym, ap, ◌∙◌}
use Rattle.std.specs.Prelude.{Ok}
use Rattle.rules.specs.Tables.{fit_unit_table}
use Rattle.ground.proofs.Limits.{filled_counted}
use Rattle.ground.proofs.Tests.{if_true}
use Rattle.state.specs.Asked.{row_answer}
use Rattle.state.proofs.QuestionAnswers.{loadable, loaded_low, row_held}
use Rattle.state.proofs.questions.row_of.Goals as goal

pub returns-else-is_fit : goal.returns-else-is_fit
unfolding row_answer
returns-else-is_fit c =
    let unfit : fit_unit_table c.args.table.now ≡ false = sym c.is_fit.ensures ∙ c.if-is_fit.false in
    rw unfit

pub load-unit-requires : goal.load-unit-requires
load-unit-requires c = loadable c.args.table.now (sym c.is_fit.ensures ∙ c.if-is_fit.true)

pub row-requires : goal.row-requires
row-requires c =
    let words = c.args.table.now in
    let fits : fit_unit_table words ≡ true = sym c.is_fit.ensures ∙ c.if-is_fit.true in
    (loaded_low words fits c.load-unit.ensures, omega (arith, (loadable words fits).0))

pub returns-then-is_fit : goal.returns-then-is_fit
unfolding row_answer
returns-then-is_fit c =
    let words = c.args.table.now in
    let fits : fit_unit_table words ≡ true = sym c.is_fit.ensures ∙ c.if-is_fit.true in
    ap Ok
    (row_held words fits c.load-unit.ensures c.is_active.ensures
    (c.distances.ensures ∙ filled_counted _ _ (loaded_low words fits c.load-unit.ensures))
    c.row.ensures)
    ∙ sym (if_true (fit_unit_table words) _ _ fits)
