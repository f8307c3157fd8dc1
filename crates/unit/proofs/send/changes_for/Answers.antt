-- `unit::send::changes_for` meets its contract: each return is a case of the choice.
use Rattle.unit.proofs.send.changes_for.Goals as goal

pub returns-then-not-sent : goal.returns-then-not-sent
returns-then-not-sent c = rw c.if-not-sent.true

pub returns-then-new : goal.returns-then-new
returns-then-new c = rw (c.if-not-sent.false, c.if-new.true)

pub returns-else-new : goal.returns-else-new
returns-else-new c = rw (c.if-not-sent.false, c.if-new.false)
