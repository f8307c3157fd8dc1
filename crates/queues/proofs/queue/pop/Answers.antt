-- `queues::queue::pop` meets its contract, by what its callees ensure.
use Rattle.queues.proofs.queue.pop.Goals as goal

pub returns : goal.returns
returns c =
    rw (c.put.ensures, c.popped.ensures, c.load-queue.ensures)
