-- `fitness::fit::fit_queue` meets its contract: its tests are the definition's.
use Prim.Native.Nat.{ℕ, ◌*◌}
use native.Mathlib.Omega.{arith}
use mathlib.Core.Bool.{Bool, ◌||◌, ◌&&◌}
use mathlib.Core.Path.{◌≡◌, sym, ap, ◌∙◌}
use lib.Dec.{eqb}
use lib.ListN.{drop}
use Rattle.ground.specs.Limits.{message_room}
use Rattle.ground.specs.Rows.{every}
use Rattle.rules.specs.Tables.{part}
use Rattle.ground.proofs.Parts.{to_end}
use Rattle.queues.specs.Queue.{held_in}
use Rattle.queues.proofs.QueueThere.{held_most}
use Rattle.slices.specs.Slices.{is_nothing}
use Rattle.fitness.specs.PartsFit.{fit_place, fit_bytes}
use Rattle.fitness.proofs.fit.fit_queue.Goals as goal
use Rattle.fitness.proofs.fit.fit_queue.Goals.{Joined-is_quiet, then-up, else-up, then-is_quiet, else-is_quiet}

-- The first two tests.
joined : (c : Joined-is_quiet)
    → (c.args.up || eqb (held_in c.args.queue.now) 0)
    && every (held_in c.args.queue.now) (λ i. fit_place c.args.count c.args.sender (part c.args.queue.now (i * message_room) message_room))
    ≡ c.if-is_quiet.value
joined c =
    let args = c.args in
    let queue = args.queue.now in
    let test : ℕ → Bool = λ i. fit_place args.count args.sender (part queue (i * message_room) message_room) in
    let quiet : args.up || eqb (held_in queue) 0 ≡ c.if-up.is_quiet =
    elim c.if-up.branch [
      | then-up w ↦ rw w.if-up.true (sym (w.is_quiet-is ∙ w.if-up.true))
      | else-up w ↦ rw w.if-up.false (sym (w.is_quiet-is ∙ ap (λ (k : ℕ). eqb k 0) c.held-held.ensures))
    ] in
    elim c.if-is_quiet.branch [
      | then-is_quiet w ↦ rw (quiet ∙ w.if-is_quiet.true)
          (sym (w.value-is ∙ w.fit_places.ensures ∙ ap (λ (k : ℕ). every k test) c.held-held.ensures))
      | else-is_quiet w ↦ rw (quiet ∙ w.if-is_quiet.false) (sym (w.value-is ∙ w.if-is_quiet.false))
    ]

pub overflow_mul-held : goal.overflow_mul-held
overflow_mul-held c = omega (arith, held_most c.args.queue.now, c.held-held.ensures)

pub slice_bounds-is_nothing-count : goal.slice_bounds-is_nothing-count
slice_bounds-is_nothing-count c = omega (arith, held_most c.args.queue.now, c.held-held.ensures)

pub slice_bounds-is_nothing-start : goal.slice_bounds-is_nothing-start
slice_bounds-is_nothing-start c = omega (arith, held_most c.args.queue.now, c.held-held.ensures)

pub returns-then-fit_places : goal.returns-then-fit_places
unfolding fit_bytes
returns-then-fit_places c =
    let queue = c.args.queue.now in
    c.is_nothing.ensures
    ∙ ap is_nothing (to_end queue (c.held-held.result * message_room))
    ∙ ap (λ (k : ℕ). is_nothing (drop (k * message_room) queue)) c.held-held.ensures
    ∙ sym (rw (joined (goal.at.returns-then-fit_places c).Joined-is_quiet ∙ c.if-fit_places.true))

pub returns-else-fit_places : goal.returns-else-fit_places
unfolding fit_bytes
returns-else-fit_places c =
    c.if-fit_places.false ∙ sym (rw (joined (goal.at.returns-else-fit_places c).Joined-is_quiet ∙ c.if-fit_places.false))
