-- `fitness::fit::Measured::fit_pair` meets its contract: its tests are the definition's.
use Prim.Native.Nat.{◌≤◌, ◌+◌}
use native.Mathlib.Omega.{arith}
use mathlib.Core.Bool.{beq}
use mathlib.Core.Path.{◌≡◌, sym, ap, ap₂, ◌∙◌}
use lib.ListN.{length}
use Rattle.rules.specs.Tables.{queue_bytes, queue_at, network_bytes}
use Rattle.rules.proofs.Laid.{part_length}
use Rattle.slices.proofs.Stretches.{lent}
use Rattle.fitness.specs.PartsFit.{fit_bytes, fit_pair}
use Rattle.fitness.specs.UnitTables.{is_linked}
use Rattle.fitness.proofs.fit.Measured.fit_pair.Goals as goal
use Rattle.fitness.proofs.fit.Measured.fit_pair.Goals.{After-begins-from, After-is_linked}

-- The queue begins where the rules have it.
place : (c : After-begins-from) → c.begins-from.result ≡ queue_at c.args.a c.args.b
place c = omega (arith, c.requires)

-- It is among the bytes.
inside : (c : After-begins-from) → c.begins-from.result + queue_bytes ≤ network_bytes
inside c = omega (arith, place c, c.requires)

-- The test of the link is the definition's.
tested : (c : After-is_linked)
    → beq (is_linked c.args.self.now.words.now c.args.a c.args.b) (is_linked c.args.self.now.words.now c.args.b c.args.a)
    ≡ beq c.is_linked-up.result c.is_linked.result
tested c = sym (ap₂ beq c.is_linked-up.ensures c.is_linked.ensures)

pub overflow_add-from : goal.overflow_add-from
overflow_add-from c = omega (arith, inside (goal.at.overflow_add-from c).After-begins-from)

pub slice_bounds-fit_queue-start : goal.slice_bounds-fit_queue-start
slice_bounds-fit_queue-start c = omega (arith, inside (goal.at.slice_bounds-fit_queue-start c).After-begins-from)

pub slice_bounds-fit_queue-end : goal.slice_bounds-fit_queue-end
slice_bounds-fit_queue-end c = omega (arith, inside (goal.at.slice_bounds-fit_queue-end c).After-begins-from)

pub fit_queue-requires : goal.fit_queue-requires
fit_queue-requires c =
    let args = c.args in (
      omega arith,
      omega arith,
      ap length (lent args.self.now.queues.now c.begins-from.result queue_bytes (place (goal.at.fit_queue-requires c).After-begins-from))
          ∙ part_length args.self.now.queues.now (queue_at args.a args.b) queue_bytes (omega arith),
    )

pub returns-then-up-is_linked : goal.returns-then-up-is_linked
unfolding fit_pair
returns-then-up-is_linked c =
    let args = c.args in
    let there = goal.at.returns-then-up-is_linked c in
    c.fit_queue.ensures
    ∙ ap₂ (fit_bytes args.self.now.count args.a) c.is_linked-up.ensures
    (lent args.self.now.queues.now c.begins-from.result queue_bytes (place there.After-begins-from))
    ∙ sym (rw (tested there.After-is_linked ∙ c.if-up-is_linked.true))

pub returns-else-up-is_linked : goal.returns-else-up-is_linked
unfolding fit_pair
returns-else-up-is_linked c =
    c.if-up-is_linked.false
    ∙ sym (rw (tested (goal.at.returns-else-up-is_linked c).After-is_linked ∙ c.if-up-is_linked.false))
