-- `state::questions::feasible` meets its contract. The number that is read is the unit's feasible distance; `feasible_within` bounds it.
use native.Mathlib.Omega.{arith}
use mathlib.Core.Path.{sym, ap, ◌∙◌}
use Rattle.std.proofs.lemmas.Result.{err_from_is_err_and}
use Rattle.rules.specs.Hub.{reachable, feasible_answer}
use Rattle.rules.specs.Tables.{unit_from}
use Rattle.rules.proofs.FitUnit.{fit_table_facts}
use Rattle.state.proofs.QuestionAnswers.{refused, answered, loadable, asked, feasible_read, feasible_within}
use Rattle.state.proofs.questions.feasible.Goals as goal

pub returns-in_err-check_question-clause-answer : goal.returns-in_err-check_question-clause-answer
unfolding feasible_answer
returns-in_err-check_question-clause-answer c =
    let exit = err_from_is_err_and c.from_residual.result c.from_residual.ensures.1 in
    let failed = c.in_err-check_question in
    rw (exit.1, exit.2) (refused _ failed.field-0.0 failed.ensures)

pub load-unit-requires : goal.load-unit-requires
load-unit-requires c = loadable c.args.table.now (asked _ _ (sym c.in_ok-check_question.ensures)).fit

pub bounds-feasible-to : goal.bounds-feasible-to
bounds-feasible-to c =
    let known = asked _ _ (sym c.in_ok-check_question.ensures) in
    omega (arith, known.below, (fit_table_facts c.args.table.now known.fit).high)

pub returns-clause-answer : goal.returns-clause-answer
unfolding feasible_answer
returns-clause-answer c =
    ap reachable (feasible_read c.args.table.now c.args.to c.load-unit.ensures) ∙ answered _ c.in_ok-check_question.ensures

pub returns-clause-within : goal.returns-clause-within
returns-clause-within c =
    let words = c.args.table.now in
    let known = asked words c.args.to (sym c.in_ok-check_question.ensures) in
    rw (feasible_read words c.args.to c.load-unit.ensures)
    (feasible_within (unit_from words) (fit_table_facts words known.fit) c.args.to known.below)
