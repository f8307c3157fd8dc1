-- `recomputing::shortest::start` meets its contract. The invariant: the array holds the distances passed, and zeros.
use native.Mathlib.Omega.{arith}
use mathlib.Core.Path.{sym, ◌∙◌}
use borrow.Author.Tests.{eq-eqb, ne_eqb}
use Rattle.ground.specs.Limits.{unit_limit}
use Rattle.ground.proofs.Filling.{filling, filled_all}
use Rattle.ground.proofs.Tests.{if_true, if_false}
use Rattle.recomputing.proofs.shortest.start.Goals as goal
use Rattle.recomputing.proofs.shortest.start.Goals.{then-j-me, else-j-me}

pub loop-j-preserved : goal.loop-j-preserved
loop-j-preserved c =
    let here = c.loop-j in
    filling unit_limit here.j _ here.invariant
    (elim c.if-j-me.branch [
      | then-j-me w ↦ w.distances-is ∙ sym (if_true _ _ _ (eq-eqb _ _ w.if-j-me.true))
      | else-j-me w ↦ w.distances-is ∙ sym (if_false _ _ _ (ne_eqb _ _ w.if-j-me.false))
    ]) (omega arith)

pub returns : goal.returns
returns c =
    filled_all unit_limit c.loop-j.j c.args.count _ c.loop-j.invariant (omega arith)
