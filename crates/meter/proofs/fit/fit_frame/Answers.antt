-- `meter::fit::fit_frame` meets its contract: its tests are the definition's, in its order.
use borrow.Author.Rules.{rules}
use Rattle.frames.specs.Meter.{fit_frame}
use Rattle.meter.proofs.fit.fit_frame.Goals as goal

pub returns-then-frame-eq0 : goal.returns-then-frame-eq0
unfolding fit_frame
returns-then-frame-eq0 c = search rules

pub returns-then-frame : goal.returns-then-frame
unfolding fit_frame
returns-then-frame c = search rules

pub returns-else-frame : goal.returns-else-frame
unfolding fit_frame
returns-else-frame c = search rules
