-- `unit::send::change` meets its contract: each branch is a case of the body, and an entry leaves room for the unit.
use native.Mathlib.Omega.{arith}
use mathlib.Core.Path.{ap}
use borrow.Author.Tests.{eq-eqb, ne_eqb}
use Rattle.rules.specs.Message.{change as changeTo}
use Rattle.unit.proofs.send.change.Goals as goal
use Rattle.unit.proofs.send.change.Goals.{then-entry-eq0, else-entry-eq0}

pub overflow_add-result : goal.overflow_add-result
overflow_add-result c =
    elim c.if-entry-eq0.branch [
      | then-entry-eq0 w ↦ omega (arith, w.body-is)
      | else-entry-eq0 w ↦ omega (arith, w.body-is)
    ]

pub returns : goal.returns
returns c =
    ap (changeTo c.args.j)
    (elim c.if-entry-eq0.branch [
      | then-entry-eq0 w ↦ rw (eq-eqb _ _ w.if-entry-eq0.true) w.body-is
      | else-entry-eq0 w ↦ rw (ne_eqb _ _ w.if-entry-eq0.false) w.body-is
    ])
