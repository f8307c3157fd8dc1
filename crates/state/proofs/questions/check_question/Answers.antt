-- `state::questions::check_question` meets its contract. The tests are the definition's, in its order.
use native.Mathlib.Omega.{arith}
use mathlib.Core.Bool.{true, false}
use mathlib.Core.Path.{◌≡◌, sym, ◌∙◌}
use borrow.Author.Tests.{lt-ltb, le-ltb}
use Rattle.ground.specs.Rows.{at}
use Rattle.rules.specs.Tables.{unit_from, fit_unit_table}
use Rattle.state.proofs.QuestionAnswers.{loadable}
use Rattle.state.proofs.questions.check_question.Goals as goal

pub returns-then-not-is_fit : goal.returns-then-not-is_fit
returns-then-not-is_fit c =
    let unfit : fit_unit_table c.args.table.now ≡ false = sym c.is_fit.ensures ∙ c.if-not-is_fit.true in
    rw unfit

pub bounds-table-0 : goal.bounds-table-0
bounds-table-0 c = omega (arith, (loadable c.args.table.now (sym c.is_fit.ensures ∙ c.if-not-is_fit.false)).0)

pub returns-then-table-to : goal.returns-then-table-to
unfolding unit_from
returns-then-table-to c =
    let fits : fit_unit_table c.args.table.now ≡ true = sym c.is_fit.ensures ∙ c.if-not-is_fit.false in
    rw (fits, le-ltb c.args.to (at c.args.table.now 0) c.if-table-to.true)

pub returns : goal.returns
unfolding unit_from
returns c =
    let fits : fit_unit_table c.args.table.now ≡ true = sym c.is_fit.ensures ∙ c.if-not-is_fit.false in
    rw (fits, lt-ltb c.args.to (at c.args.table.now 0) c.if-table-to.false)
