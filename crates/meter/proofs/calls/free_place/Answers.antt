-- `meter::calls::free_place` meets its contract, by what `find` finds over a range.
use mathlib.Core.Bool.{not}
use Rattle.std.proofs.Common.{rules, tests}
use Rattle.ground.specs.Limits.{frame_limit}
use Rattle.frames.specs.Meter.{is_held, frame_at}
use Rattle.frames.specs.MeterTable.{meter_from}
use Rattle.meter.proofs.Found.{find_below}
use Rattle.meter.proofs.ReadFrames.{none_there}
use Rattle.meter.proofs.calls.free_place.Goals as goal

pub returns : goal.returns
returns c =
    let meter = c.args.meter.now in
    let found =
    find_below (λ place. not (is_held (frame_at (meter_from meter) place))) frame_limit _ _ c.find.result c.find.ensures.ran
    (λ x b q k. search (rules, tests, none_there meter x c.requires)) in
    record { lowest = found.0; inside = found.1 }
