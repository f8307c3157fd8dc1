-- `meter::fit::fit_frames` meets its contract, by what `all` finds over a range.
use Rattle.std.proofs.Common.{rules, tests}
use Rattle.ground.specs.Limits.{frame_limit}
use Rattle.ground.proofs.Chains.{all_below}
use Rattle.meter.proofs.MeterFit.{fit_frame_at}
use Rattle.meter.proofs.ReadFrames.{frame_there}
use Rattle.meter.proofs.fit.fit_frames.Goals as goal

pub returns : goal.returns
returns c =
    let args = c.args in
    all_below (fit_frame_at args.count args.meter.now) frame_limit _ _ _ c.all.ensures.ran
    (λ x b q k. search (rules, tests, frame_there args.meter.now x c.requires))
