-- `meter::calls::enter` meets its contract: the refusal, or bytes counted as entered and then as delivered, or a frame put at the
-- lowest free place.
use Prim.Native.Nat.{ℕ, ◌≤◌}
use native.Mathlib.Omega.{arith}
use mathlib.Core.List.{List}
use mathlib.Core.Path.{◌≡◌, sym, subst}
use Rattle.std.proofs.lemmas.Result.{err_from_is_err_and}
use Rattle.ground.specs.Limits.{entered_limit}
use Rattle.ground.specs.Refusal.{accepted}
use Rattle.frames.specs.Meter.{enters}
use Rattle.frames.specs.MeterTable.{meter_refusal}
use Rattle.meter.specs.declared.table.Sum.TheVariants.{Entered, Delivered}
use Rattle.meter.proofs.CallAnswers.{counted_long, still_delivered, answers_refusal, entered_there, entered_elsewhere}
use Rattle.meter.proofs.Refusals.{Metered, fit-metered, enters_freely, entered_inside}
use Rattle.meter.proofs.calls.enter.Goals as goal

-- The tables have what fit ones have, where nothing refuses the call.
known : (words bytes meter : List ℕ) (size unit destination : ℕ)
    → accepted ≡ meter_refusal words bytes meter (enters size unit destination) → Metered words bytes meter
known words bytes meter size unit destination none =
    fit-metered words bytes meter (enters_freely words bytes meter size unit destination (sym none)).0

pub returns-in_err-place : goal.returns-in_err-place
returns-in_err-place c =
    let args = c.args in
    let passed = err_from_is_err_and c.from_residual.result c.from_residual.ensures.1 in
    rw (passed.1, passed.2)
    (answers_refusal args.words.now args.queues.now args.meter.now (enters args.size args.unit args.destination)
    c.in_err-place.field-0.0 c.in_err-place.ensures.refusal)

pub count_bytes-requires : goal.count_bytes-requires
count_bytes-requires c =
    let args = c.args in
    let has =
    known args.words.now args.queues.now args.meter.now args.size args.unit args.destination c.in_ok-place.ensures.refusal in
    (has.long, has.within Entered)

pub count_bytes-requires-then-unit-destination : goal.count_bytes-requires-then-unit-destination
count_bytes-requires-then-unit-destination c =
    let args = c.args in
    let has =
    known args.words.now args.queues.now args.meter.now args.size args.unit args.destination c.in_ok-place.ensures.refusal in (
      counted_long Entered args.size args.meter.now _ c.count_bytes.ensures,
      subst (λ n. n ≤ entered_limit) (sym (still_delivered args.size args.meter.now _ c.count_bytes.ensures))
          (has.within Delivered),
    )

pub returns-then-unit-destination : goal.returns-then-unit-destination
returns-then-unit-destination c =
    let args = c.args in
    entered_there args.words.now args.queues.now args.meter.now args.size args.unit args.destination
    (sym c.in_ok-place.ensures.refusal) _ c.count_bytes.ensures c.if-unit-destination.true _
    c.count_bytes-then-unit-destination.ensures

pub put_frame-requires : goal.put_frame-requires
put_frame-requires c =
    let args = c.args in (
      counted_long Entered args.size args.meter.now _ c.count_bytes.ensures,
      entered_inside args.words.now args.queues.now args.meter.now args.size args.unit args.destination
          (sym c.in_ok-place.ensures.refusal) c.in_ok-place.ensures.place,
    )

pub overflow_cast-result : goal.overflow_cast-result
overflow_cast-result c =
    let args = c.args in
    omega (
      arith,
      entered_inside args.words.now args.queues.now args.meter.now args.size args.unit args.destination
          (sym c.in_ok-place.ensures.refusal) c.in_ok-place.ensures.place,
    )

pub returns : goal.returns
returns c =
    let args = c.args in
    entered_elsewhere args.words.now args.queues.now args.meter.now args.size args.unit args.destination
    (sym c.in_ok-place.ensures.refusal) _ c.count_bytes.ensures c.if-unit-destination.false
    c.in_ok-place.place c.in_ok-place.ensures.place _ c.put_frame.ensures
