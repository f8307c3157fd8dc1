-- `meter::calls::check_move` meets its contract. The tests are the definition's, in its order.
use Prim.Native.Nat.{ℕ, ◌+◌, ◌*◌, ◌<◌}
use native.Mathlib.Omega.{arith}
use mathlib.Core.Bool.{Bool, true}
use mathlib.Core.List.{List}
use mathlib.Core.Path.{◌≡◌, sym, ap, ◌∙◌}
use Rattle.std.specs.Prelude.{Some}
use Rattle.std.proofs.lemmas.Result.{err_from_is_err_and}
use Rattle.ground.specs.Limits.{unit_limit}
use Rattle.ground.specs.Rows.{at, is_in}
use Rattle.rules.specs.Tables.{unit_words, successors_at}
use Rattle.fitness.proofs.SuccessorSets.{set_at}
use Rattle.frames.specs.Meter.{is_held, frame_at, moves}
use Rattle.frames.specs.MeterTable.{meter_from, fit_metered}
use Rattle.meter.specs.Reading.{as_read, held_in}
use Rattle.meter.specs.declared.table.Frame.{Frame as FrameRead}
use Rattle.meter.proofs.Found.{ok_or_ok, ok_or_err}
use Rattle.meter.proofs.ReadFrames.{held_there, free_there}
use Rattle.meter.proofs.Refusals.{Metered, fit-metered, unfit_refused}
use Rattle.meter.proofs.Refusals.{next_outside, moved_unheld, no_successor, may_move}
use Rattle.meter.proofs.calls.check_move.Goals as goal

module _ (words bytes meter : List ℕ) (fit : fit_metered words bytes meter ≡ true) where
  -- The tables have what fit ones have.
  known : Metered words bytes meter
  known = fit-metered words bytes meter fit

  module _ (place : ℕ) (found : FrameRead) (read : Some found ≡ held_in meter place) where
    -- The frame that is found is held at the place,
    held : is_held (frame_at (meter_from meter) place) ≡ true
    held = (held_there meter place known.long found read).0

    there : found ≡ as_read (frame_at (meter_from meter) place)
    there = (held_there meter place known.long found read).1

    -- at a unit, and for one.
    bounds : (found.unit < unit_limit) × (found.destination < unit_limit)
    bounds =
        let way = known.frames place held in
        let high = known.sized.high in
        let unit : found.unit ≡ (frame_at (meter_from meter) place).unit = ap (λ (r : FrameRead). r.unit) there in
        let destination : found.destination ≡ (frame_at (meter_from meter) place).destination =
        ap (λ (r : FrameRead). r.destination) there in
        (omega (arith, way.unit), omega (arith, way.destination))

    -- The set that is read is the one of its successors.
    set_told : (unit : ℕ) {result : Bool}
        → result ≡ is_in (at words (found.unit * unit_words + (successors_at + found.destination))) unit
        → is_in (set_at words (frame_at (meter_from meter) place).destination (frame_at (meter_from meter) place).unit) unit ≡ result
    set_told unit said =
        sym
        (said ∙ ap (λ (r : FrameRead). is_in (at words (r.unit * unit_words + (successors_at + r.destination))) unit) there)

pub returns-then-not-is_fit-clause-refusal : goal.returns-then-not-is_fit-clause-refusal
returns-then-not-is_fit-clause-refusal c =
    let args = c.args in
    unfit_refused args.words.now args.queues.now args.meter.now (moves args.place args.unit) (sym c.if-not-is_fit.ensures)

pub bounds-words-0 : goal.bounds-words-0
bounds-words-0 c =
    let args = c.args in
    omega (arith, (known args.words.now args.queues.now args.meter.now (sym c.if-not-is_fit.ensures)).sized.long)

pub returns-then-words-unit-clause-refusal : goal.returns-then-words-unit-clause-refusal
returns-then-words-unit-clause-refusal c =
    let args = c.args in
    next_outside args.words.now args.queues.now args.meter.now (sym c.if-not-is_fit.ensures) args.place
    args.unit c.if-words-unit.true

pub returns-in_err-frame : goal.returns-in_err-frame
returns-in_err-frame c =
    let args = c.args in
    let fit = sym c.if-not-is_fit.ensures in
    let passed = err_from_is_err_and c.from_residual.result c.from_residual.ensures.1 in
    let told = ok_or_err c.held_at.result _ _ c.in_err-frame.ensures.value in
    rw (passed.1, passed.2, told.0)
    (record {
      refusal =
          moved_unheld args.words.now args.queues.now args.meter.now fit args.place args.unit c.if-words-unit.false
          (free_there args.meter.now args.place (known args.words.now args.queues.now args.meter.now fit).long
          (told.1 ∙ c.held_at.ensures));
      frame = tt;
    })

pub bounds-words-from : goal.bounds-words-from
bounds-words-from c =
    let args = c.args in
    let fit = sym c.if-not-is_fit.ensures in
    let within =
    bounds args.words.now args.queues.now args.meter.now fit args.place c.in_ok-frame.frame
    (ok_or_ok c.held_at.result _ _ c.in_ok-frame.ensures.value ∙ c.held_at.ensures) in
    omega (arith, within.0, within.1, (known args.words.now args.queues.now args.meter.now fit).sized.long)

pub is_in-requires : goal.is_in-requires
is_in-requires c =
    let args = c.args in
    let has = known args.words.now args.queues.now args.meter.now (sym c.if-not-is_fit.ensures) in
    omega (arith, c.if-words-unit.false, has.sized.high)

pub returns-then-not-is_in-clause-refusal : goal.returns-then-not-is_in-clause-refusal
returns-then-not-is_in-clause-refusal c =
    let args = c.args in
    let fit = sym c.if-not-is_fit.ensures in
    let found = ok_or_ok c.held_at.result _ _ c.in_ok-frame.ensures.value ∙ c.held_at.ensures in
    let set = set_told args.words.now args.queues.now args.meter.now fit args.place c.in_ok-frame.frame found args.unit c.is_in.ensures in
    no_successor args.words.now args.queues.now args.meter.now fit args.place args.unit c.if-words-unit.false
    (held args.words.now args.queues.now args.meter.now fit args.place c.in_ok-frame.frame found)
    (set ∙ c.if-not-is_in.true)

pub returns : goal.returns
returns c =
    let args = c.args in
    let fit = sym c.if-not-is_fit.ensures in
    let found = ok_or_ok c.held_at.result _ _ c.in_ok-frame.ensures.value ∙ c.held_at.ensures in
    let set = set_told args.words.now args.queues.now args.meter.now fit args.place c.in_ok-frame.frame found args.unit c.is_in.ensures in
    record {
      refusal =
          may_move args.words.now args.queues.now args.meter.now fit args.place args.unit c.if-words-unit.false
          (held args.words.now args.queues.now args.meter.now fit args.place c.in_ok-frame.frame found)
          (set ∙ c.if-not-is_in.false);
      frame = there args.words.now args.queues.now args.meter.now fit args.place c.in_ok-frame.frame found;
    }
