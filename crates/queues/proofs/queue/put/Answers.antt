-- `queues::queue::put` meets its contract: nothing changes where there is no queue, else the bytes are laid over its part.
use native.Mathlib.Omega.{arith}
use mathlib.Core.Path.{◌≡◌, sym, ◌∙◌}
use borrow.Author.Rules.{rules}
use lib.ListN.{length}
use Rattle.rules.specs.Tables.{queue_bytes, queue_at}
use Rattle.queues.proofs.QueueThere.{There, there_of, put_none, put_there}
use Rattle.queues.proofs.queue.put.Goals as goal

pub returns-then-not-has_queue : goal.returns-then-not-has_queue
returns-then-not-has_queue c =
    let args = c.args in
    put_none args.queues.now args.a args.b args.queue (sym c.has_queue.ensures ∙ c.if-not-has_queue.true)

pub returns : goal.returns
returns c =
    let args = c.args in
    let t : There args.queues.now args.a args.b =
    there_of args.queues.now args.a args.b (sym c.has_queue.ensures ∙ c.if-not-has_queue.false) in
    let place : c.begins.result ≡ queue_at args.a args.b = omega arith in
    let wide : length args.queue ≡ queue_bytes = search rules in
    c.lay_over.ensures ∙ put_there args.queues.now args.a args.b t args.queue wide place
