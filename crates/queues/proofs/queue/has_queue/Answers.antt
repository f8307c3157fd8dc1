-- `queues::queue::has_queue` meets its contract: each return rewrites the definition by the tests that led there.
use borrow.Author.Tests.{eq-eqb, ne_eqb, lt-ltb, le-ltb}
use Rattle.queues.specs.Queue.{has_queue}
use Rattle.queues.proofs.queue.has_queue.Goals as goal

pub returns-then-queues-ne-NETWORK_BYTES : goal.returns-then-queues-ne-NETWORK_BYTES
unfolding has_queue
returns-then-queues-ne-NETWORK_BYTES c = simp (ne_eqb _ _ c.if-queues-ne-NETWORK_BYTES.true)

pub returns-then-a-ge-UNITS : goal.returns-then-a-ge-UNITS
unfolding has_queue
returns-then-a-ge-UNITS c = simp (eq-eqb _ _ c.if-queues-ne-NETWORK_BYTES.false, le-ltb _ _ c.if-a-ge-UNITS.true)

pub returns : goal.returns
unfolding has_queue
returns c = simp (eq-eqb _ _ c.if-queues-ne-NETWORK_BYTES.false, lt-ltb _ _ c.if-a-ge-UNITS.false)
