-- `queues::queue::held` meets its contract. The invariant: each place below i begins with a number that is not 0.
use Prim.Native.Nat.{ℕ, ◌*◌, ◌-◌, ◌≤◌, ◌<◌}
use native.Mathlib.Omega.{arith}
use mathlib.Core.Bool.{false}
use mathlib.Core.Path.{◌≡◌, sym, ◌∙◌}
use borrow.Author.Count.{below_more}
use borrow.Author.Rules.{rules}
use borrow.Author.Tests.{eq-eqb, ne_eqb}
use lib.Dec.{eqb}
use lib.ListN.{get_or-eq_default}
use Rattle.ground.specs.Limits.{queue_room, message_room}
use Rattle.ground.specs.Rows.{at}
use Rattle.ground.proofs.Lists.{lowest_is}
use Rattle.queues.specs.Queue.{held_in}
use Rattle.queues.proofs.queue.held.Statement.{statement}
use Rattle.queues.proofs.queue.held.Tie as tie

abbrev invariant_loop : tie.invariant-loop-i
invariant_loop queue i₀ i =
    (i ≤ queue_room) × ((k : ℕ) → k < i → eqb (at queue (k * message_room)) 0 ≡ false)

abbrev decreases_loop : tie.decreases-loop-i
decreases_loop queue i₀ i = queue_room - i

loop_holds : tie.Need-loop-i-init invariant_loop decreases_loop
loop_holds c = (search rules, λ k l. absurd (omega arith))

-- The place where the search stops is the first that is free.
found : (c : tie.At-loop-i invariant_loop decreases_loop)
    → let queue = c.args.queue.now in
    (c.loop-i.i < queue_room → at queue (c.loop-i.i * message_room) ≡ 0) → c.loop-i.i ≡ held_in queue
unfolding held_in
found c free =
    let queue = c.args.queue.now in
    sym
    (lowest_is queue_room (λ k. eqb (at queue (k * message_room)) 0) c.loop-i.i c.loop-i.invariant.0 c.loop-i.invariant.1
    (λ l. eq-eqb (at queue (c.loop-i.i * message_room)) 0 (free l)))

returns : tie.Need-returns-then-queue-place invariant_loop decreases_loop
returns c =
    let here = c.before.before in
    found here (λ l.
    get_or-eq_default here.args.queue.now 0 {n = here.loop-i.i * message_room} c.if-queue-place.true)

returns_2 : tie.Need-returns-then-queue-place-eq0 invariant_loop decreases_loop
returns_2 c = found c.before.before.before.before (λ l. c.if-queue-place-eq0.true)

loop_again : tie.Need-loop-i-preserved invariant_loop decreases_loop
loop_again c =
    let queue = c.args.queue.now in (
      search rules,
      below_more _ _ c.loop-i.invariant.1 (ne_eqb (at queue (c.loop-i.i * message_room)) 0 c.if-queue-place-eq0.false),
    )

returns_3 : tie.Need-returns invariant_loop decreases_loop
returns_3 c =
    let all : c.loop-i.i ≡ queue_room = omega arith in
    sym all ∙ found c.before (λ l. absurd (omega arith))

pub held_spec : {M : Type 1} → statement M
held_spec =
    tie.close
    (tie.spec
    invariant_loop
    decreases_loop
    loop_holds
    (λ c. search rules)
    returns
    (λ c. search rules)
    returns_2
    (λ c. search rules) (λ c. search rules)
    loop_again
    returns_3)
