-- `queues::queue::load` meets its contract: zeros where there is no queue, else its part of all bytes laid over them.
use native.Mathlib.Omega.{arith}
use mathlib.Core.Path.{◌≡◌, sym, ◌∙◌}
use borrow.Author.Rules.{rules}
use Rattle.rules.specs.Tables.{queue_bytes, queue_at}
use Rattle.queues.proofs.QueueThere.{There, there_of, load_none, load_there}
use Rattle.slices.proofs.Stretches.{lent}
use Rattle.queues.proofs.queue.load.Statement.{statement}
use Rattle.queues.proofs.queue.load.Tie as tie

-- There is a queue where the test went on.
there : (c : tie.Else-not-has_queue)
    → let args = c.args in
    There args.queues.now args.a args.b
there c =
    let args = c.args in
    there_of args.queues.now args.a args.b
    (sym c.has_queue.ensures ∙ c.if-not-has_queue.false)

returns : tie.Need-returns-then-not-has_queue
returns c =
    let args = c.args in
    load_none args.queues.now args.a args.b
    (sym c.has_queue.ensures ∙ c.if-not-has_queue.true)

part_lay_over_end : tie.Need-slice_bounds-lay_over-end-2
part_lay_over_end c =
    let t = there c.before.before in
    search rules

returns_2 : tie.Need-returns
returns_2 c =
    let begun = c.before.before.before.before in
    let t = there begun.before in
    let args = begun.args in
    let place : begun.begins-from.result ≡ queue_at args.a args.b = omega arith in
    c.lay_over.ensures
    ∙ load_there args.queues.now args.a args.b t (lent args.queues.now begun.begins-from.result queue_bytes place)

pub load_spec : {M : Type 1} → statement M
load_spec =
    tie.close
    (tie.spec
    (λ c. search rules)
    returns
    (λ c. search rules) (λ c. search rules) (λ c. search rules) (λ c. search rules) (λ c. search rules)
    part_lay_over_end
    (λ c. search rules)
    returns_2)
