-- `meter::table::held_at` meets its contract: the test of the size is the definition's.
use mathlib.Core.Path.{sym, ap, ◌∙◌}
use borrow.Author.Tests.{eq-eqb}
use Rattle.meter.specs.declared.table.Frame.{Frame}
use Rattle.meter.proofs.table.held_at.Goals as goal

pub returns-then-frame-eq0 : goal.returns-then-frame-eq0
returns-then-frame-eq0 c =
    sym (rw (eq-eqb _ 0 (sym (ap (λ (frame : Frame). frame.size) c.frame_in-frame.ensures) ∙ c.if-frame-eq0.true)))
