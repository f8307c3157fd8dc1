-- `unit::noting::entry_of` meets its contract. Each answer is the branch that the test takes.
use mathlib.Core.Path.{sym}
use borrow.Author.Tests.{eq-eqb, ne_eqb}
use Rattle.ground.proofs.Tests.{if_true, if_false}
use Rattle.unit.proofs.noting.entry_of.Goals as goal

pub returns-then-body-eq-REMOVED : goal.returns-then-body-eq-REMOVED
returns-then-body-eq-REMOVED c = sym (if_true _ _ _ (eq-eqb _ _ c.if-body-eq-REMOVED.true))

pub returns-else-body-eq-REMOVED : goal.returns-else-body-eq-REMOVED
returns-else-body-eq-REMOVED c = sym (if_false _ _ _ (ne_eqb _ _ c.if-body-eq-REMOVED.false))
