-- `network::calls::are_bad_ends` meets its contract: each return rewrites the definition by the tests that led there.
use borrow.Author.Tests.{le-ltb, lt-ltb}
use Rattle.rules.specs.Network.{bad_ends}
use Rattle.network.proofs.calls.are_bad_ends.Goals as goal

pub returns-then-count-a : goal.returns-then-count-a
unfolding bad_ends
returns-then-count-a c = simp (le-ltb _ _ c.if-count-a.true)

pub returns-then-count-b : goal.returns-then-count-b
unfolding bad_ends
returns-then-count-b c = simp (lt-ltb _ _ c.if-count-a.false, le-ltb _ _ c.if-count-b.true)

pub returns : goal.returns
unfolding bad_ends
returns c = simp (lt-ltb _ _ c.if-count-a.false, lt-ltb _ _ c.if-count-b.false)
