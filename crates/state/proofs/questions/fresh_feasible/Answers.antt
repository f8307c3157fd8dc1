-- `state::questions::fresh_feasible` meets its contract.
use native.Mathlib.Omega.{arith}
use mathlib.Core.Path.{sym, ◌∙◌}
use borrow.Author.Tests.{eq-eqb, ne_eqb}
use Rattle.ground.specs.Limits.{unit_limit}
use Rattle.ground.proofs.Filling.{filling, filled_all}
use Rattle.ground.proofs.Tests.{if_true, if_false}
use Rattle.rules.specs.Unit.{fresh_unit}
use Rattle.state.proofs.questions.fresh_feasible.Goals as goal
use Rattle.state.proofs.questions.fresh_feasible.Goals.{then-j-me, else-j-me}
use Rattle.state.proofs.questions.fresh_feasible.Invariants.{distance_to}

pub loop-j-preserved : goal.loop-j-preserved
loop-j-preserved c =
    let here = c.loop-j in
    let me = c.args.me in
    filling unit_limit here.j (distance_to me) here.invariant
    (elim c.if-j-me.branch [
      | then-j-me w ↦ w.row-is ∙ sym (if_true _ _ _ (eq-eqb _ _ w.if-j-me.true))
      | else-j-me w ↦ w.row-is ∙ sym (if_false _ _ _ (ne_eqb _ _ w.if-j-me.false))
    ])
    (omega arith)

pub returns : goal.returns
unfolding fresh_unit
returns c =
    let args = c.args in
    filled_all unit_limit c.loop-j.j args.count (distance_to args.me) c.loop-j.invariant (omega arith)
