-- No queue of a network that calls reach holds more than 2 messages: each holds an update or an acknowledgment, and of each
-- there is at most one on the way in one direction. So no call makes a queue pass 4.
use Prim.Native.Nat.{ℕ, ◌+◌, ◌≤◌, ◌<◌, ◌%◌}
use native.Mathlib.Omega.{arith}
use mathlib.Core.Bool.{true, false}
use mathlib.Core.List.{List}
use mathlib.Core.Path.{◌≡◌, sym}
use borrow.Author.Tests.{ltb-true, leb-true, leb-false, eq-eqb}
use lib.Dec.{ltb}
use lib.ListN.{length}
use Rattle.ground.specs.Limits.{queue_room, legal_count}
use Rattle.ground.specs.Refusal.{accepted}
use Rattle.ground.specs.Rows.{some}
use Rattle.rules.specs.Message.{Message, update, holds_update, holds_acknowledgment, legal_message}
use Rattle.rules.specs.Network.{Network, Call, queue, is_up, outcome, overflows, refusal_of, fit_queued}
use Rattle.loopfree.specs.Conditions.{count_in, updates_in, acknowledgments_in, is_start}
use Rattle.loopfree.specs.Reached.{run, reached}
use Rattle.ground.specs.Each.{none, one}
use Rattle.ground.proofs.Lists.{parts}
use Rattle.ground.proofs.Rows.{some_at}
use Rattle.ground.proofs.Tests.{not_yes}
use Rattle.rules.proofs.Fit.{FitNetwork, fit_network_of}
use Rattle.ground.proofs.Cases.{by_test, by_equal}
use Rattle.loopfree.proofs.Exchange.{one_if, one_of}
use Rattle.loopfree.proofs.Invariant.{Holds, Any, LineOf}
use Rattle.loopfree.proofs.Kept.{keeps_call, reached_holds}
use Rattle.loopfree.proofs.Sound.{Home}
use Rattle.steps.proofs.OrderlyNetwork.{Orderly}
use Rattle.lasting.proofs.ReachedFit.{Kept, start_kept, run_kept, reached_kept}
use Rattle.rules.proofs.QueuedMessages.{Proper}
use Rattle.steps.proofs.OrderlyCalls.{orderly_of, outcome_orderly}

-- "Byte 2: 1 acknowledgment, 2 update, 3 both": a legal message holds one of the two.
holds_one : (n a : ℕ) (m : Message) → fit_queued n a m ≡ true → 1 ≤ one_if (holds_update m) + one_if (holds_acknowledgment m)
unfolding fit_queued legal_message
holds_one n a m e =
    by_test (holds_update m)
    (λ h. omega (arith, one_of (holds_update m) h))
    (λ h.
    let least : 1 ≤ m.kind = leb-true 1 m.kind (search parts) in
    let most : m.kind < 2 = leb-false update m.kind h in
    omega (arith, one_of (holds_acknowledgment m) (eq-eqb (m.kind % 2) 1 (omega arith))))

-- So proper messages are at most as many as the updates and the acknowledgments in them.
proper_few : (n a : ℕ) {ms : List Message} → Proper n a ms → length ms ≤ updates_in ms + acknowledgments_in ms
unfolding count_in
proper_few n a none = omega arith
proper_few n a (one {x = m} p ps) = omega (arith, holds_one n a m p, proper_few n a ps)

module _ (n : ℕ) (net : Network) (holds : Holds n Any net) (o : Orderly net) where
  -- A unit has no link to itself.
  self_down : (a : ℕ) → a < n → is_up net a a ≡ false
  self_down a ha =
      let h : Home n a _ = holds.home a ha in
      rw (rw h.named at h.sound.links.self)

  -- Each queue holds at most 2 messages.
  two_queued : (a b : ℕ) → a < n → b < n → length (queue net a b) ≤ 2
  two_queued a b ha hb =
      by_equal a b
      (λ ab. rw (ab, o.quiet b b (rw holds.shape.counted hb) (rw holds.shape.counted hb) (self_down b hb))
      (omega arith))
      (λ ab.
      let there : LineOf n net a b = holds.lines a b ha hb ab in
      let back : LineOf n net b a = holds.lines b a hb ha (λ q. ab (sym q)) in
      omega (
        arith,
        proper_few _ a (o.queued a b (rw holds.shape.counted ha) (rw holds.shape.counted hb)),
        there.balance,
        there.single,
        back.balance,
        back.single,
      ))

  -- So none passes 4: "some queue would pass 4 messages" is not so.
  never_over : overflows net ≡ false
  unfolding overflows
  never_over =
      not_yes _ (λ t.
      let row : (a : ℕ) × (a < net.count) × (some net.count (λ b. ltb queue_room (length (queue net a b))) ≡ true) =
      some_at net.count _ t in
      let place : (b : ℕ) × (b < net.count) × (ltb queue_room (length (queue net row.0 b)) ≡ true) =
      some_at net.count _ row.2 in
      omega (
        arith,
        two_queued row.0 place.0 (omega (arith, row.1, holds.shape.counted))
            (omega (arith, place.1, holds.shape.counted)),
        ltb-true queue_room (length (queue net row.0 place.0)) place.2,
      ))

-- None passes 4 in the outcome of a call that would not be refused on some result, be it another.
pub outcome_never_over : (net : Network) → Kept net → (call : Call) (result : Network)
    → refusal_of net call result ≡ accepted → overflows (outcome net call) ≡ false
outcome_never_over net kept call result e =
    let f : FitNetwork net = fit_network_of net kept.fit in
    never_over net.count (outcome net call) (keeps_call net.count f.high net kept.holds call result e)
    (outcome_orderly net f kept.shaped call result e)

-- Each queue of a network that is kept holds at most 2 messages.
kept_few : (net : Network) → Kept net → (a b : ℕ) → a < net.count → b < net.count → length (queue net a b) ≤ 2
kept_few net kept =
    two_queued net.count net kept.holds (orderly_of net (fit_network_of net kept.fit) kept.shaped)

-- So does each of a network that calls reach from a start.
pub start_few_queued : (start : Network) → is_start start ≡ true → (calls : List Call) (a b : ℕ)
    → a < (run start calls).count → b < (run start calls).count → length (queue (run start calls) a b) ≤ 2
start_few_queued start s calls = kept_few (run start calls) (run_kept start (start_kept start s) calls)

-- And from the fresh network.
pub few_queued : (n : ℕ) → legal_count n ≡ true → (calls : List Call) (a b : ℕ) → a < n → b < n
    → length (queue (reached n calls) a b) ≤ 2
few_queued n legal calls =
    rw (reached_holds n legal calls).shape.counted at (kept_few (reached n calls) (reached_kept n legal calls))
