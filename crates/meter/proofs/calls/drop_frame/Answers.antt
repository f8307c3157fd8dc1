-- `meter::calls::drop_frame` meets its contract: the refusal, or the frame ends and its bytes count as dropped.
use mathlib.Core.Path.{sym}
use Rattle.std.proofs.lemmas.Result.{err_from_is_err_and}
use Rattle.frames.specs.Meter.{drops}
use Rattle.meter.specs.declared.table.Sum.TheVariants.{Dropped}
use Rattle.meter.proofs.CallAnswers.{answers_refusal, dropped_now}
use Rattle.meter.proofs.Refusals.{held_inside, fit-metered, drops_held}
use Rattle.meter.proofs.calls.drop_frame.Goals as goal

pub returns-in_err-frame : goal.returns-in_err-frame
returns-in_err-frame c =
    let args = c.args in
    let passed = err_from_is_err_and c.from_residual.result c.from_residual.ensures.1 in
    rw (passed.1, passed.2)
    (answers_refusal args.words.now args.queues.now args.meter.now (drops args.place) c.in_err-frame.field-0.0
    c.in_err-frame.ensures.refusal)

pub end-requires : goal.end-requires
end-requires c =
    let args = c.args in
    let held = drops_held args.words.now args.queues.now args.meter.now args.place (sym c.in_ok-frame.ensures.refusal) in
    let has = fit-metered args.words.now args.queues.now args.meter.now held.0 in
    (has.long, held_inside args.meter.now args.place held.1, has.within Dropped)

pub returns : goal.returns
returns c =
    let args = c.args in
    dropped_now args.words.now args.queues.now args.meter.now args.place c.in_ok-frame.frame c.in_ok-frame.ensures.frame
    (sym c.in_ok-frame.ensures.refusal) _ c.end.ensures
