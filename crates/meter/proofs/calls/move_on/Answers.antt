-- `meter::calls::move_on` meets its contract: the refusal, or the frame ends, delivered or dropped, or it is put back one hop
-- further.
use Prim.Native.Nat.{ℕ, ◌<◌}
use native.Mathlib.Omega.{arith}
use mathlib.Core.List.{List}
use mathlib.Core.Path.{◌≡◌, sym, ap, subst}
use Rattle.std.proofs.lemmas.Result.{err_from_is_err_and}
use Rattle.ground.specs.Limits.{hop_limit}
use Rattle.ground.specs.Refusal.{accepted}
use Rattle.frames.specs.Meter.{frame_at, moves}
use Rattle.frames.specs.MeterTable.{meter_from, meter_refusal}
use Rattle.meter.specs.Reading.{as_read}
use Rattle.meter.specs.declared.table.Frame.{Frame as FrameRead}
use Rattle.meter.specs.declared.table.Sum.TheVariants.{Delivered, Dropped}
use Rattle.meter.proofs.CallAnswers.{answers_refusal, moved_there, moved_last, moved_onward}
use Rattle.meter.proofs.Refusals.{Metered, fit-metered, moves_held, moved_inside}
use Rattle.meter.proofs.calls.move_on.Goals as goal

-- Where nothing refuses the call,
module _ (words bytes meter : List ℕ) (place unit : ℕ) (none : accepted ≡ meter_refusal words bytes meter (moves place unit)) where
  -- the tables have what fit ones have,
  known : Metered words bytes meter
  known = fit-metered words bytes meter (moves_held words bytes meter place unit (sym none)).0

  -- and the frame at the place has made fewer hops than a frame may.
  few : (found : FrameRead) → found ≡ as_read (frame_at (meter_from meter) place) → found.hops < hop_limit
  few found there =
      subst (λ n. n < hop_limit) (sym (ap (λ (r : FrameRead). r.hops) there))
      (known.frames place (moves_held words bytes meter place unit (sym none)).1).hops

pub returns-in_err-frame : goal.returns-in_err-frame
returns-in_err-frame c =
    let args = c.args in
    let passed = err_from_is_err_and c.from_residual.result c.from_residual.ensures.1 in
    rw (passed.1, passed.2)
    (answers_refusal args.words.now args.queues.now args.meter.now (moves args.place args.unit) c.in_err-frame.field-0.0
    c.in_err-frame.ensures.refusal)

pub end-requires : goal.end-requires
end-requires c =
    let args = c.args in
    let none = c.in_ok-frame.ensures.refusal in
    let has = known args.words.now args.queues.now args.meter.now args.place args.unit none in (
      has.long,
      moved_inside args.words.now args.queues.now args.meter.now args.place args.unit (sym none),
      has.within Delivered,
    )

pub returns-then-unit-frame : goal.returns-then-unit-frame
returns-then-unit-frame c =
    let args = c.args in
    moved_there args.words.now args.queues.now args.meter.now args.place c.in_ok-frame.frame c.in_ok-frame.ensures.frame
    args.unit (sym c.in_ok-frame.ensures.refusal) _ c.if-unit-frame.true c.end.ensures

pub overflow_add-frame : goal.overflow_add-frame
overflow_add-frame c =
    let args = c.args in
    omega (
      arith,
      few args.words.now args.queues.now args.meter.now args.place args.unit c.in_ok-frame.ensures.refusal c.in_ok-frame.frame
          c.in_ok-frame.ensures.frame,
    )

pub end-requires-then-frame-ge-HOPS : goal.end-requires-then-frame-ge-HOPS
end-requires-then-frame-ge-HOPS c =
    let args = c.args in
    let none = c.in_ok-frame.ensures.refusal in
    let has = known args.words.now args.queues.now args.meter.now args.place args.unit none in (
      has.long,
      moved_inside args.words.now args.queues.now args.meter.now args.place args.unit (sym none),
      has.within Dropped,
    )

pub returns-then-frame-ge-HOPS : goal.returns-then-frame-ge-HOPS
returns-then-frame-ge-HOPS c =
    let args = c.args in
    moved_last args.words.now args.queues.now args.meter.now args.place c.in_ok-frame.frame c.in_ok-frame.ensures.frame
    args.unit (sym c.in_ok-frame.ensures.refusal) _ c.if-unit-frame.false c.if-frame-ge-HOPS.true
    c.end-then-frame-ge-HOPS.ensures

pub put_frame-requires : goal.put_frame-requires
put_frame-requires c =
    let args = c.args in
    let none = c.in_ok-frame.ensures.refusal in (
      (known args.words.now args.queues.now args.meter.now args.place args.unit none).long,
      moved_inside args.words.now args.queues.now args.meter.now args.place args.unit (sym none),
    )

pub returns : goal.returns
returns c =
    let args = c.args in
    moved_onward args.words.now args.queues.now args.meter.now args.place c.in_ok-frame.frame c.in_ok-frame.ensures.frame
    args.unit (sym c.in_ok-frame.ensures.refusal) _ c.if-unit-frame.false c.if-frame-ge-HOPS.false c.put_frame.ensures
