-- `asking::check_unit` meets its contract. The tests are the definition's, in its order.
use native.Mathlib.Omega.{arith}
use mathlib.Core.Bool.{true, false}
use mathlib.Core.Path.{◌≡◌, sym, ◌∙◌}
use borrow.Author.Tests.{lt-ltb, le-ltb}
use Rattle.ground.specs.Rows.{at}
use Rattle.rules.specs.Tables.{network_from, fit_tables}
use Rattle.fitness.proofs.FitTables.{fit_length}
use Rattle.asking.proofs.check_unit.Goals as goal

pub returns-then-not-is_fit : goal.returns-then-not-is_fit
returns-then-not-is_fit c =
    let args = c.args in
    let unfit : fit_tables args.words.now args.queues.now ≡ false = sym c.is_fit.ensures ∙ c.if-not-is_fit.true in
    rw unfit

pub bounds-words-0 : goal.bounds-words-0
bounds-words-0 c =
    let args = c.args in
    omega (arith, fit_length args.words.now args.queues.now (sym c.is_fit.ensures ∙ c.if-not-is_fit.false))

pub returns-then-words-i : goal.returns-then-words-i
unfolding network_from
returns-then-words-i c =
    let args = c.args in
    let fits : fit_tables args.words.now args.queues.now ≡ true = sym c.is_fit.ensures ∙ c.if-not-is_fit.false in
    rw (fits, le-ltb args.i (at args.words.now 0) c.if-words-i.true)

pub returns : goal.returns
unfolding network_from
returns c =
    let args = c.args in
    let fits : fit_tables args.words.now args.queues.now ≡ true = sym c.is_fit.ensures ∙ c.if-not-is_fit.false in
    rw (fits, lt-ltb args.i (at args.words.now 0) c.if-words-i.false)
