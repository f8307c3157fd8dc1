-- `unit::refusing::link_refusal` meets its contract. What another refusal shows first is written out.
use Rattle.unit.proofs.refusing.link_refusal.Goals as goal

pub returns-in-true-true : goal.returns-in-true-true
returns-in-true-true c = rw (c.in-true-true.is-0, c.in-true-true.is-1)

pub returns-in-false-false : goal.returns-in-false-false
returns-in-false-false c = rw (c.in-false-false.is-0, c.in-false-false.is-1)
