-- `state::questions::listed` meets its contract. The row stands in the table whole; `listed_small` bounds the number that is read.
use native.Mathlib.Omega.{arith}
use mathlib.Core.Logic.{inl}
use mathlib.Core.Path.{sym, ◌∙◌}
use Rattle.std.proofs.lemmas.Result.{err_from_is_err_and}
use Rattle.ground.proofs.Reached.{reached_near}
use Rattle.rules.proofs.FitUnit.{fit_table_facts}
use Rattle.state.specs.Asked.{listed_answer}
use Rattle.state.proofs.ListedAnswers.{listed_within, listed_small}
use Rattle.state.proofs.QuestionAnswers.{refused, answered, loadable, asked}
use Rattle.state.proofs.questions.listed.Goals as goal

pub returns-in_err-check_question-clause-answer : goal.returns-in_err-check_question-clause-answer
unfolding listed_answer
returns-in_err-check_question-clause-answer c =
    let exit = err_from_is_err_and c.from_residual.result c.from_residual.ensures.1 in
    let failed = c.in_err-check_question in
    rw (exit.1, exit.2) (refused _ failed.field-0.0 failed.ensures)

pub bounds-table-row : goal.bounds-table-row
bounds-table-row c =
    let words = c.args.table.now in
    let known = asked words c.args.to (sym c.in_ok-check_question.ensures) in
    omega
    (arith, (loadable words known.fit).0, listed_within c.args.row c.requires, known.below, (fit_table_facts words known.fit).high)

pub returns-clause-answer : goal.returns-clause-answer
unfolding listed_answer
returns-clause-answer c =
    let words = c.args.table.now in
    let known = asked words c.args.to (sym c.in_ok-check_question.ensures) in
    reached_near _ (omega (arith, listed_small words c.args.to known c.args.row c.requires))
    ∙ answered _ c.in_ok-check_question.ensures

pub returns-clause-within : goal.returns-clause-within
returns-clause-within c =
    let words = c.args.table.now in
    let known = asked words c.args.to (sym c.in_ok-check_question.ensures) in
    inl (omega (arith, listed_small words c.args.to known c.args.row c.requires))
