-- `meter::calls::check_enter` meets its contract. The tests are the definition's, in its order.
use Prim.Native.Nat.{ℕ, ◌≤◌, ◌<◌}
use native.Mathlib.Omega.{arith}
use mathlib.Core.List.{List}
use mathlib.Core.Logic.{◌≢◌}
use mathlib.Core.Path.{◌≡◌, sym, ap, subst, ◌∙◌}
use Rattle.std.specs.Prelude.{Option, Some, None, IfSome, unwrap_or}
use Rattle.std.proofs.lemmas.Result.{err_from_is_err_and}
use Rattle.ground.specs.Limits.{frame_limit, entered_limit}
use Rattle.frames.specs.Meter.{free_place, enters}
use Rattle.frames.specs.MeterTable.{meter_from}
use Rattle.meter.specs.Reading.{figure_in}
use Rattle.meter.specs.declared.table.Figure.TheVariants.{Entered}
use Rattle.meter.proofs.Found.{ok_or_ok, ok_or_err}
use Rattle.meter.proofs.ReadFrames.{figure_there}
use Rattle.meter.proofs.Refusals.{Metered, fit-metered, unfit_refused, bytes_fit}
use Rattle.meter.proofs.Refusals.{unit_outside, destination_outside, all_full, too_many, illegal_size, may_enter}
use Rattle.meter.proofs.calls.check_enter.Goals as goal
use Rattle.meter.proofs.calls.check_enter.Goals.{then-words-unit-via-then-words-unit, then-words-unit-via-else-words-unit+then-words-destination}

-- The figure that is read is the meter's.
read : (words bytes meter : List ℕ) {figure : ℕ} → Metered words bytes meter → figure ≡ figure_in Entered meter
    → figure ≡ (meter_from meter).entered
read words bytes meter has told = told ∙ figure_there meter has.long Entered

-- The place that was found is the lowest free one, and is one of the meter's.
module _ (meter : List ℕ) (found : Option ℕ) (lowest : unwrap_or found frame_limit ≡ free_place (meter_from meter)) where
  free : (place : ℕ) → Some place ≡ found → place ≡ free_place (meter_from meter)
  free place e = ap (λ o. unwrap_or o frame_limit) e ∙ lowest

  room : (place : ℕ) → Some place ≡ found → IfSome found (λ k. k < frame_limit) → free_place (meter_from meter) ≢ frame_limit
  room place e inside full =
      let l : place < frame_limit = subst (λ o. IfSome o (λ k. k < frame_limit)) (sym e) inside in
      omega (arith, free place e)

  none : None ≡ found → free_place (meter_from meter) ≡ frame_limit
  none e = sym (ap (λ o. unwrap_or o frame_limit) e ∙ lowest)

pub returns-then-not-is_fit-clause-refusal : goal.returns-then-not-is_fit-clause-refusal
returns-then-not-is_fit-clause-refusal c =
    let args = c.args in
    unfit_refused args.words.now args.queues.now args.meter.now (enters args.size args.unit args.destination)
    (sym c.if-not-is_fit.ensures)

pub bounds-words-0 : goal.bounds-words-0
bounds-words-0 c =
    let args = c.args in
    omega (arith, (fit-metered args.words.now args.queues.now args.meter.now (sym c.if-not-is_fit.ensures)).sized.long)

pub returns-then-words-unit-clause-refusal : goal.returns-then-words-unit-clause-refusal
returns-then-words-unit-clause-refusal c =
    let args = c.args in
    let fit = sym c.if-not-is_fit.ensures in
    elim c.then-words-unit.branch [
      | then-words-unit-via-then-words-unit w ↦
          unit_outside args.words.now args.queues.now args.meter.now fit args.size args.unit args.destination w.if-words-unit.true
      | then-words-unit-via-else-words-unit+then-words-destination w ↦
          destination_outside args.words.now args.queues.now args.meter.now fit args.size args.unit args.destination
          w.if-words-unit.false w.if-words-destination.true
    ]

pub free_place-requires : goal.free_place-requires
free_place-requires c =
    let args = c.args in
    (fit-metered args.words.now args.queues.now args.meter.now (sym c.if-not-is_fit.ensures)).long

pub returns-in_err-place : goal.returns-in_err-place
returns-in_err-place c =
    let args = c.args in
    let passed = err_from_is_err_and c.from_residual.result c.from_residual.ensures.1 in
    let told = ok_or_err c.free_place.result _ _ c.in_err-place.ensures.value in
    rw (passed.1, passed.2, told.0)
    (record {
      refusal =
          all_full args.words.now args.queues.now args.meter.now (sym c.if-not-is_fit.ensures)
          args.size args.unit args.destination c.if-words-unit.false c.if-words-destination.false
          (none args.meter.now c.free_place.result c.free_place.ensures.lowest told.1);
      place = tt;
    })

pub overflow_add-figure_in : goal.overflow_add-figure_in
overflow_add-figure_in c =
    let args = c.args in
    let has = fit-metered args.words.now args.queues.now args.meter.now (sym c.if-not-is_fit.ensures) in
    record {
      fits =
          bytes_fit c.figure_in.result c.from.result
          (subst (λ n. n ≤ entered_limit) (sym (read args.words.now args.queues.now args.meter.now has c.figure_in.ensures))
          has.entered)
          (omega (arith, c.from.ensures, c.ranges.size.fits));
    }

pub returns-then-figure_in-from-gt-ENTERED_LIMIT-clause-refusal : goal.returns-then-figure_in-from-gt-ENTERED_LIMIT-clause-refusal
returns-then-figure_in-from-gt-ENTERED_LIMIT-clause-refusal c =
    let args = c.args in
    let fit = sym c.if-not-is_fit.ensures in
    let has = fit-metered args.words.now args.queues.now args.meter.now fit in
    let figure = read args.words.now args.queues.now args.meter.now has c.figure_in.ensures in
    too_many args.words.now args.queues.now args.meter.now fit
    args.size args.unit args.destination c.if-words-unit.false c.if-words-destination.false
    (room args.meter.now c.free_place.result c.free_place.ensures.lowest c.in_ok-place.place
    (ok_or_ok c.free_place.result _ _ c.in_ok-place.ensures.value) c.free_place.ensures.inside)
    (omega (arith, figure, c.from.ensures, c.if-figure_in-from-gt-ENTERED_LIMIT.true))

pub returns-then-not-is_legal_size-clause-refusal : goal.returns-then-not-is_legal_size-clause-refusal
returns-then-not-is_legal_size-clause-refusal c =
    let args = c.args in
    let fit = sym c.if-not-is_fit.ensures in
    let has = fit-metered args.words.now args.queues.now args.meter.now fit in
    let figure = read args.words.now args.queues.now args.meter.now has c.figure_in.ensures in
    illegal_size args.words.now args.queues.now args.meter.now fit
    args.size args.unit args.destination c.if-words-unit.false c.if-words-destination.false
    (room args.meter.now c.free_place.result c.free_place.ensures.lowest c.in_ok-place.place
    (ok_or_ok c.free_place.result _ _ c.in_ok-place.ensures.value) c.free_place.ensures.inside)
    (omega (arith, figure, c.from.ensures, c.if-figure_in-from-gt-ENTERED_LIMIT.false))
    (sym c.if-not-is_legal_size.ensures)

pub returns : goal.returns
returns c =
    let args = c.args in
    let fit = sym c.if-not-is_fit.ensures in
    let has = fit-metered args.words.now args.queues.now args.meter.now fit in
    let figure = read args.words.now args.queues.now args.meter.now has c.figure_in.ensures in
    let there = ok_or_ok c.free_place.result _ _ c.in_ok-place.ensures.value in
    record {
      refusal =
          may_enter args.words.now args.queues.now args.meter.now fit
          args.size args.unit args.destination c.if-words-unit.false c.if-words-destination.false
          (room args.meter.now c.free_place.result c.free_place.ensures.lowest c.in_ok-place.place there c.free_place.ensures.inside)
          (omega (arith, figure, c.from.ensures, c.if-figure_in-from-gt-ENTERED_LIMIT.false))
          (sym c.if-not-is_legal_size.ensures);
      place = free args.meter.now c.free_place.result c.free_place.ensures.lowest c.in_ok-place.place there;
    }
