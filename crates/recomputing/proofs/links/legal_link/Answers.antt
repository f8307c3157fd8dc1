-- `recomputing::links::legal_link` meets its contract: each return rewrites the definition by the tests that led there.
use borrow.Author.Tests.{le-leb, lt-leb}
use Rattle.recomputing.proofs.links.legal_link.Goals as goal

pub returns-then-cost-lt1 : goal.returns-then-cost-lt1
returns-then-cost-lt1 c = simp (lt-leb _ _ c.if-cost-lt1.true)

pub returns-then-cost-gt-HIGHEST_COST : goal.returns-then-cost-gt-HIGHEST_COST
returns-then-cost-gt-HIGHEST_COST c = simp (le-leb _ _ c.if-cost-lt1.false, lt-leb _ _ c.if-cost-gt-HIGHEST_COST.true)

pub returns : goal.returns
returns c = simp (le-leb _ _ c.if-cost-lt1.false, le-leb _ _ c.if-cost-gt-HIGHEST_COST.false)
