-- `queues::queue::clear_link` meets its contract, by what its callees ensure.
use Rattle.queues.proofs.queue.clear_link.Goals as goal

pub returns : goal.returns
returns c =
    rw (c.clear-2.ensures, c.clear.ensures)
