-- `meter::fit::is_fit` meets its contract: the network's tables decide first, then the meter's.
use native.Mathlib.Omega.{arith}
use mathlib.Core.Bool.{true}
use mathlib.Core.Path.{◌≡◌, sym, ◌∙◌}
use Rattle.rules.specs.Tables.{fit_tables}
use Rattle.fitness.proofs.FitTables.{fit_length}
use Rattle.meter.proofs.MeterFit.{network_unfit, table_decides}
use Rattle.meter.proofs.fit.is_fit.Goals as goal
use Rattle.meter.proofs.fit.is_fit.Goals.{Then-is_fit}

-- The network's tables are fit where the meter's are tested.
fits : (c : Then-is_fit) → fit_tables c.args.words.now c.args.queues.now ≡ true
fits c = sym c.is_fit.ensures ∙ c.if-is_fit.true

pub returns-else-is_fit : goal.returns-else-is_fit
returns-else-is_fit c =
    let args = c.args in
    c.if-is_fit.false ∙ network_unfit args.words.now args.queues.now args.meter.now (sym c.is_fit.ensures ∙ c.if-is_fit.false)

pub bounds-words-0 : goal.bounds-words-0
bounds-words-0 c =
    let args = c.args in
    omega (arith, fit_length args.words.now args.queues.now (fits (goal.at.bounds-words-0 c).Then-is_fit))

pub returns-then-is_fit : goal.returns-then-is_fit
returns-then-is_fit c =
    let args = c.args in
    c.fit_table.ensures
    ∙ table_decides args.words.now args.queues.now args.meter.now (fits (goal.at.returns-then-is_fit c).Then-is_fit)
