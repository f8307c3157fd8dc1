-- `unit::refusing::is_bad_end` meets its contract: each return rewrites the definition by the tests that led there.
use borrow.Author.Tests.{le-ltb, lt-ltb}
use Rattle.rules.specs.Network.{bad_ends}
use Rattle.unit.proofs.refusing.is_bad_end.Goals as goal

pub returns-then-count-to : goal.returns-then-count-to
unfolding bad_ends
returns-then-count-to c = simp (lt-ltb _ _ c.requires, le-ltb _ _ c.if-count-to.true)

pub returns : goal.returns
unfolding bad_ends
returns c = simp (lt-ltb _ _ c.requires, lt-ltb _ _ c.if-count-to.false)
