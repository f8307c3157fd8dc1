-- `meter::table::held_frames` meets its contract, by what is counted over a range.
use mathlib.Core.Path.{refl, ◌∙◌}
use Rattle.std.proofs.Common.{rules, tests}
use Rattle.std.proofs.lemmas.Iterator.{YieldsList-from_range}
use Rattle.std.proofs.lemmas.Iterator.Consumers.{YieldsList-from_filter, count_from_yields_List}
use Rattle.ground.specs.Limits.{frame_limit}
use Rattle.frames.specs.Meter.{is_held, frame_at}
use Rattle.frames.specs.MeterTable.{meter_from}
use Rattle.meter.proofs.Found.{count_below}
use Rattle.meter.proofs.ReadFrames.{found_there}
use Rattle.meter.proofs.table.held_frames.Goals as goal

pub returns : goal.returns
returns c =
    let meter = c.args.meter.now in
    count_from_yields_List c.filter.result _ c.count.ensures.ran
    (YieldsList-from_filter _ (λ place. is_held (frame_at (meter_from meter) place))
    (YieldsList-from_range 0 frame_limit frame_limit c.filter.ensures.source refl)
    c.filter.ensures.closure (λ x b q k. search (rules, tests, found_there meter x c.requires)))
    ∙ count_below (λ place. is_held (frame_at (meter_from meter) place)) frame_limit
