-- `message::fields::legal_change` meets its contract: each return rewrites the definition by the tests that led there.
use borrow.Author.Tests.{eq-eqb, ne_eqb, le-ltb, lt-ltb, le-leb, lt-leb}
use Rattle.message.specs.Fields.{legal_from}
use Rattle.message.proofs.fields.legal_change.Goals as goal

pub returns-then-unit-lowest : goal.returns-then-unit-lowest
unfolding legal_from
returns-then-unit-lowest c = simp (lt-leb _ _ c.if-unit-lowest.true)

pub returns-then-count-unit : goal.returns-then-count-unit
unfolding legal_from
returns-then-count-unit c = simp (le-leb _ _ c.if-unit-lowest.false, le-ltb _ _ c.if-count-unit.true)

pub returns-then-unit-sender : goal.returns-then-unit-sender
unfolding legal_from
returns-then-unit-sender c =
    simp
    (le-leb _ _ c.if-unit-lowest.false, lt-ltb _ _ c.if-count-unit.false, eq-eqb _ _ c.if-unit-sender.true)

pub returns : goal.returns
unfolding legal_from
returns c =
    simp
    (le-leb _ _ c.if-unit-lowest.false, lt-ltb _ _ c.if-count-unit.false, ne_eqb _ _ c.if-unit-sender.false)
    c.legal_body.ensures
