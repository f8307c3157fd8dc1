-- `meter::calls::check_drop` meets its contract. The tests are the definition's, in its order.
use mathlib.Core.Path.{sym}
use Rattle.frames.specs.Meter.{drops}
use Rattle.meter.proofs.Refusals.{unfit_refused, drop_told}
use Rattle.meter.proofs.calls.check_drop.Goals as goal

pub returns-then-not-is_fit-clause-refusal : goal.returns-then-not-is_fit-clause-refusal
returns-then-not-is_fit-clause-refusal c =
    let args = c.args in
    unfit_refused args.words.now args.queues.now args.meter.now (drops args.place) (sym c.if-not-is_fit.ensures)

pub returns : goal.returns
returns c =
    let args = c.args in
    rw (c.ok_or.ensures.value, c.held_at.ensures)
    (drop_told args.words.now args.queues.now args.meter.now (sym c.if-not-is_fit.ensures) args.place)
