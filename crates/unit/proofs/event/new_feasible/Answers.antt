-- `unit::event::new_feasible` meets its contract. The invariant: the array holds the distances passed, and zeros.
use native.Mathlib.Omega.{arith}
use mathlib.Core.Path.{refl}
use borrow.Author.Rules.{rules}
use Rattle.ground.specs.Limits.{unit_limit}
use Rattle.ground.proofs.Filling.{filling, filled_all}
use Rattle.unit.proofs.event.new_feasible.Goals as goal

pub loop-j-init : goal.loop-j-init
loop-j-init c = (search rules, refl)

pub loop-j-preserved : goal.loop-j-preserved
loop-j-preserved c =
    let here = c.loop-j in
    (search rules, filling unit_limit here.j _ here.invariant.1 c.lowered.ensures (omega arith))

pub returns : goal.returns
returns c = filled_all unit_limit c.loop-j.j c.args.count _ c.loop-j.invariant.1 (omega arith)
