-- `ground::is_legal_cost` meets its contract: each return rewrites the definition by the tests that led there.
use borrow.Author.Tests.{le-leb, lt-leb}
use Rattle.ground.proofs.is_legal_cost.Goals as goal

pub returns-then-cost-lt1 : goal.returns-then-cost-lt1
returns-then-cost-lt1 c = simp (lt-leb _ _ c.if-cost-lt1.true)

pub returns : goal.returns
returns c = simp (le-leb _ _ c.if-cost-lt1.false)
