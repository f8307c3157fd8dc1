-- `asking::asked` meets its contract: the answer is the unit's, by `pair_answers`.
use Prim.Native.Nat.{◌*◌}
use mathlib.Core.Path.{refl, sym}
use borrow.Author.Rules.{rules}
use Rattle.std.proofs.lemmas.Result.{err_from_is_err_and}
use Rattle.rules.specs.Tables.{unit_words}
use Rattle.slices.proofs.Stretches.{lent}
use Rattle.fitness.proofs.FitTables.{table_there}
use Rattle.asking.proofs.UnitAnswers.{pair_asked, pair_answers, pair_refuses}
use Rattle.asking.proofs.asked.Goals as goal

pub returns-in_err-check_pair-clause-answer : goal.returns-in_err-check_pair-clause-answer
returns-in_err-check_pair-clause-answer c =
    let args = c.args in
    let exit = err_from_is_err_and c.from_residual.result c.from_residual.ensures.1 in
    let failed = c.in_err-check_pair in
    rw (exit.1, exit.2)
    (pair_refuses args.words.now args.queues.now args.i args.j args.question failed.field-0.0 failed.ensures)

pub slice_bounds-ask-end : goal.slice_bounds-ask-end
slice_bounds-ask-end c =
    let args = c.args in
    let known = pair_asked args.words.now args.queues.now args.i args.j (sym c.in_ok-check_pair.ensures) in
    let there = table_there args.words.now args.queues.now known.0 args.i known.1 in
    search rules

pub returns-clause-answer : goal.returns-clause-answer
returns-clause-answer c =
    let args = c.args in
    rw (c.ask.ensures.answer, lent args.words.now (args.i * unit_words) unit_words refl)
    (pair_answers args.words.now args.queues.now args.i args.j (sym c.in_ok-check_pair.ensures) args.question)
