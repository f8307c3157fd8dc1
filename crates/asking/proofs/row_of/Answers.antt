-- `asking::row_of` meets its contract: the answers are the unit's, by `row_asked`.
use Prim.Native.Nat.{◌*◌}
use mathlib.Core.Path.{refl, sym}
use borrow.Author.Rules.{rules}
use Rattle.std.proofs.lemmas.Result.{err_from_is_err_and}
use Rattle.rules.specs.Tables.{unit_words}
use Rattle.fitness.proofs.FitTables.{table_there}
use Rattle.asking.proofs.UnitAnswers.{unit_asked, row_refused, row_asked}
use Rattle.slices.proofs.Stretches.{lent}
use Rattle.asking.proofs.row_of.Goals as goal

pub returns-in_err-check_unit : goal.returns-in_err-check_unit
returns-in_err-check_unit c =
    let args = c.args in
    let exit = err_from_is_err_and c.from_residual.result c.from_residual.ensures.1 in
    let failed = c.in_err-check_unit in
    rw (exit.1, exit.2) (row_refused args.words.now args.queues.now args.i failed.field-0.0 failed.ensures)

pub slice_bounds-row_of-end : goal.slice_bounds-row_of-end
slice_bounds-row_of-end c =
    let args = c.args in
    let known = unit_asked args.words.now args.queues.now args.i (sym c.in_ok-check_unit.ensures) in
    let there = table_there args.words.now args.queues.now known.0 args.i known.1 in
    search rules

pub returns : goal.returns
returns c =
    let args = c.args in
    rw (c.row_of.ensures, lent args.words.now (args.i * unit_words) unit_words refl)
    (row_asked args.words.now args.queues.now args.i (sym c.in_ok-check_unit.ensures))
