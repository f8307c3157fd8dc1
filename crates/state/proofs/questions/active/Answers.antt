-- `state::questions::active` meets its contract. The unit that was loaded is the table's, by `active_held`.
use mathlib.Core.Bool.{true, false}
use mathlib.Core.Path.{◌≡◌, sym, ◌∙◌}
use Rattle.rules.specs.Hub.{active_answer}
use Rattle.rules.specs.Tables.{fit_unit_table}
use Rattle.state.proofs.QuestionAnswers.{loadable, active_held}
use Rattle.state.proofs.questions.active.Goals as goal

pub returns-then-not-is_fit : goal.returns-then-not-is_fit
unfolding active_answer
returns-then-not-is_fit c =
    let unfit : fit_unit_table c.args.table.now ≡ false = sym c.is_fit.ensures ∙ c.if-not-is_fit.true in
    rw unfit

pub load-requires : goal.load-requires
load-requires c = loadable c.args.table.now (sym c.is_fit.ensures ∙ c.if-not-is_fit.false)

pub returns : goal.returns
unfolding active_answer
returns c =
    let words = c.args.table.now in
    let fits : fit_unit_table words ≡ true = sym c.is_fit.ensures ∙ c.if-not-is_fit.false in
    rw (fits, c.is_active.ensures ∙ active_held words fits c.load.ensures)
