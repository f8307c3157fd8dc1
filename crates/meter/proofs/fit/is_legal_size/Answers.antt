-- `meter::fit::is_legal_size` meets its contract. The tests are the definition's, in its order.
use mathlib.Core.Path.{sym}
use borrow.Author.Tests.{le-leb}
use Rattle.meter.proofs.fit.is_legal_size.Goals as goal

pub returns-then-size-ge1 : goal.returns-then-size-ge1
returns-then-size-ge1 c = sym (rw (le-leb 1 c.args.size c.if-size-ge1.true))
