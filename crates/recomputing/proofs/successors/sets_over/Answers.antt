-- `recomputing::successors::sets_over` meets its contract. The invariant: the first j sets are worked out, and the rest are zeros.
use native.Mathlib.Omega.{arith}
use mathlib.Core.Path.{sym, ap, ◌∙◌}
use Rattle.ground.specs.Limits.{unit_limit}
use Rattle.ground.specs.Rows.{filled}
use Rattle.ground.proofs.Filled.{filled_tab}
use Rattle.ground.proofs.Filling.{filled_all}
use Rattle.ground.proofs.Limits.{counted_all, counted_none}
use Rattle.recomputing.specs.Successors.{set_over}
use Rattle.recomputing.proofs.successors.sets_over.Goals as goal

pub returns-then-count-gt-UNITS : goal.returns-then-count-gt-UNITS
returns-then-count-gt-UNITS c = sym (ap (filled unit_limit) (counted_none c.args.count _ c.if-count-gt-UNITS.true))

pub loop-j-preserved : goal.loop-j-preserved
loop-j-preserved c =
    let here = c.loop-j in
    let args = c.args in
    rw (here.invariant, c.set_over.ensures)
    (filled_tab unit_limit here.j (set_over args.count args.through args.feasible) (omega arith))

pub returns : goal.returns
returns c =
    let args = c.args in
    filled_all unit_limit c.loop-j.j args.count _ c.loop-j.invariant (omega arith)
    ∙ sym (ap (filled unit_limit) (counted_all args.count _ (omega arith)))
