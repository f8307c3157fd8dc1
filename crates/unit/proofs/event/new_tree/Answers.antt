-- `unit::event::new_tree` meets its contract: what recomputing needs of the arrays follows from a fit unit.
use mathlib.Core.Path.{ap}
use Rattle.state.specs.declared.held.Held.{Held}
use Rattle.unit.proofs.Composed.{row_held}
use Rattle.unit.proofs.event.new_tree.Goals as goal

pub returns-then-kept : goal.returns-then-kept
returns-then-kept c = rw c.if-kept.true (ap (λ (h : Held). h.tree) c.requires.0.padded)

pub returns : goal.returns
returns c =
    rw c.if-kept.false
    (row_held c.args.unit c.requires.0 c.requires.1 c.recomputed.ensures)
