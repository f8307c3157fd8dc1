-- `asking::check_pair` meets its contract: the first unit decides, then the second.
use native.Mathlib.Omega.{arith}
use mathlib.Core.Path.{sym, ◌∙◌}
use borrow.Author.Tests.{lt-ltb, le-ltb}
use Rattle.std.proofs.lemmas.Result.{err_from_is_err_and}
use Rattle.ground.specs.Rows.{at}
use Rattle.ground.proofs.Answers.{number_some}
use Rattle.rules.specs.Tables.{network_from}
use Rattle.fitness.proofs.FitTables.{fit_length}
use Rattle.asking.proofs.UnitAnswers.{unit_asked, pair_refused}
use Rattle.asking.proofs.check_pair.Goals as goal

pub returns-in_err-check_unit : goal.returns-in_err-check_unit
returns-in_err-check_unit c =
    let args = c.args in
    let exit = err_from_is_err_and c.from_residual.result c.from_residual.ensures.1 in
    let failed = c.in_err-check_unit in
    rw (exit.1, exit.2)
    (failed.ensures
    ∙ pair_refused args.words.now args.queues.now args.i args.j (λ none. number_some failed.field-0.0 (failed.ensures ∙ none)))

pub bounds-words-0 : goal.bounds-words-0
bounds-words-0 c =
    let args = c.args in
    omega (
      arith,
      fit_length args.words.now args.queues.now
          (unit_asked args.words.now args.queues.now args.i (sym c.in_ok-check_unit.ensures)).0,
    )

pub returns-then-words-j : goal.returns-then-words-j
unfolding network_from
returns-then-words-j c =
    let args = c.args in
    let count = at args.words.now 0 in
    let first = unit_asked args.words.now args.queues.now args.i (sym c.in_ok-check_unit.ensures) in
    rw (first.0, lt-ltb args.i count first.1, le-ltb args.j count c.if-words-j.true)

pub returns : goal.returns
unfolding network_from
returns c =
    let args = c.args in
    let count = at args.words.now 0 in
    let first = unit_asked args.words.now args.queues.now args.i (sym c.in_ok-check_unit.ensures) in
    rw (first.0, lt-ltb args.i count first.1, lt-ltb args.j count c.if-words-j.false)
