-- `unit::send::kind_for` meets its contract. What another kind shows first is written out.
use Rattle.unit.proofs.send.kind_for.Goals as goal

pub returns-in-false-true : goal.returns-in-false-true
returns-in-false-true c = rw (c.in-false-true.is-0, c.in-false-true.is-1)
