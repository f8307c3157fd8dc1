-- `state::questions::distance` meets its contract. The tree that was loaded is the unit's, so the distance is its own.
use native.Mathlib.Omega.{arith}
use mathlib.Core.Path.{◌≡◌, sym, ap, ◌∙◌}
use borrow.Author.Rules.{rules}
use lib.ListN.{length}
use lib.Seq.{length-take-le}
use Rattle.std.proofs.lemmas.Result.{err_from_is_err_and}
use Rattle.ground.specs.Limits.{unit_limit}
use Rattle.rules.specs.Hub.{reachable, distance_answer}
use Rattle.state.proofs.QuestionAnswers.{refused, answered, loadable, loaded_low, asked, own_measured, own_within}
use Rattle.state.proofs.questions.distance.Goals as goal

pub returns-in_err-check_question-clause-answer : goal.returns-in_err-check_question-clause-answer
unfolding distance_answer
returns-in_err-check_question-clause-answer c =
    let exit = err_from_is_err_and c.from_residual.result c.from_residual.ensures.1 in
    let failed = c.in_err-check_question in
    rw (exit.1, exit.2) (refused _ failed.field-0.0 failed.ensures)

pub load-unit-requires : goal.load-unit-requires
load-unit-requires c = loadable c.args.table.now (asked _ _ (sym c.in_ok-check_question.ensures)).fit

pub slice_bounds-tree-end : goal.slice_bounds-tree-end
slice_bounds-tree-end c =
    let long : length c.load-unit.result.tree ≡ unit_limit = search rules in
    omega (arith, loaded_low _ (asked c.args.table.now c.args.to (sym c.in_ok-check_question.ensures)).fit c.load-unit.ensures)

pub slice_bounds-distance-end : goal.slice_bounds-distance-end
slice_bounds-distance-end c =
    let unit = c.load-unit.result in
    let long : length unit.tree ≡ unit_limit = search rules in
    sym
    (length-take-le unit.count unit.tree
    (omega (arith, loaded_low _ (asked c.args.table.now c.args.to (sym c.in_ok-check_question.ensures)).fit c.load-unit.ensures)))

pub returns-clause-answer : goal.returns-clause-answer
unfolding distance_answer
returns-clause-answer c =
    let known = asked c.args.table.now c.args.to (sym c.in_ok-check_question.ensures) in
    ap reachable (c.distance.ensures ∙ own_measured _ _ known c.load-unit.ensures)
    ∙ answered _ c.in_ok-check_question.ensures

pub returns-clause-within : goal.returns-clause-within
returns-clause-within c =
    let known = asked c.args.table.now c.args.to (sym c.in_ok-check_question.ensures) in
    own_within _ _ known (c.distance.ensures ∙ own_measured _ _ known c.load-unit.ensures) (omega (arith, c.distance.type_inv))
