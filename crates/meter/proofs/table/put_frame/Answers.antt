-- `meter::table::put_frame` meets its contract: the frame's four numbers are laid over the place.
use native.Mathlib.Omega.{arith}
use mathlib.Core.Path.{◌∙◌}
use Rattle.meter.proofs.ReadFrames.{frame_put}
use Rattle.meter.proofs.table.put_frame.Goals as goal

pub returns : goal.returns
returns c =
    let args = c.args in
    c.lay_over.ensures
    ∙ frame_put args.meter.now c.requires.0 (λ i. grind arith)
    args.place c.requires.1 args.frame
