-- `message::fields::legal_body` meets its contract: each return rewrites the definition by the tests that led there.
use borrow.Author.Tests.{eq-eqb, ne_eqb, le-ltb, lt-ltb, le-leb, lt-leb}
use Rattle.rules.specs.Message.{legal_body}
use Rattle.message.proofs.fields.legal_body.Goals as goal

pub returns-then-body-eq-REMOVED : goal.returns-then-body-eq-REMOVED
unfolding legal_body
returns-then-body-eq-REMOVED c = simp (eq-eqb _ _ c.if-body-eq-REMOVED.true)

pub returns-then-count-head : goal.returns-then-count-head
unfolding legal_body
returns-then-count-head c = simp (ne_eqb _ _ c.if-body-eq-REMOVED.false, le-ltb _ _ c.if-count-head.true)

pub returns-then-head-unit : goal.returns-then-head-unit
unfolding legal_body
returns-then-head-unit c = simp (ne_eqb _ _ c.if-body-eq-REMOVED.false, lt-ltb _ _ c.if-count-head.false, eq-eqb _ _ c.if-head-unit.true)

pub returns-then-cost-lt1 : goal.returns-then-cost-lt1
unfolding legal_body
returns-then-cost-lt1 c =
    simp
    (ne_eqb _ _ c.if-body-eq-REMOVED.false, lt-ltb _ _ c.if-count-head.false, ne_eqb _ _ c.if-head-unit.false, lt-leb _ _ c.if-cost-lt1.true)

pub returns : goal.returns
unfolding legal_body
returns c =
    simp
    (ne_eqb _ _ c.if-body-eq-REMOVED.false, lt-ltb _ _ c.if-count-head.false, ne_eqb _ _ c.if-head-unit.false, le-leb _ _ c.if-cost-lt1.false)
