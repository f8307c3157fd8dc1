-- `queues::queue::appended` meets its contract, by what its callees ensure.
use borrow.Author.Rules.{rules}
use Rattle.queues.specs.Queue.{appended_of}
use Rattle.queues.proofs.QueueThere.{held_most}
use Rattle.queues.proofs.queue.appended.Goals as goal

pub overflow_mul-held : goal.overflow_mul-held
overflow_mul-held c =
    let few = held_most c.args.queue in
    search rules

pub returns : goal.returns
unfolding appended_of
returns c = rw (c.lay_over.ensures, c.held.ensures)
