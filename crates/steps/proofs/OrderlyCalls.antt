-- A call that is not refused leaves a fit and shaped network orderly; and so shaped, as no queue passes its room.
use Prim.Native.Nat.{ℕ, ◌≤◌, ◌<◌}
use native.Mathlib.Omega.{arith}
use mathlib.Core.Bool.{true, false, not, ◌||◌}
use mathlib.Core.List.{[]}
use mathlib.Core.Logic.{◌≢◌}
use mathlib.Core.Path.{◌≡◌, refl, sym, ◌∙◌}
use borrow.Author.Tests.{eqb-true, eqb-false, ltb-false, not-true, not-false}
use lib.Dec.{eqb, ltb}
use lib.ListN.{length, set, drop, drop_of_length-le}
use lib.Seq.{get_or-set_other}
use Rattle.ground.specs.Limits.{queue_room}
use Rattle.ground.specs.Refusal.{accepted}
use Rattle.ground.specs.Rows.{at, some}
use Rattle.tree.specs.Recompute.{copy_of}
use Rattle.tree.specs.Tree.{is_tree}
use Rattle.rules.specs.Event.{received, link_up, new_cost, link_down, noted, reaction, message_refusal}
use Rattle.rules.specs.Message.{Message, holds_update, applied}
use Rattle.rules.specs.Network.{Network, Call, up, cost, down, deliver, unit_at, queue, is_up, next_message}
use Rattle.rules.specs.Network.{with_queue, reacted, happens, outcome, overflows, refusal_of, call_refusal}
use Rattle.rules.specs.Network.{fit_queue}
use Rattle.rules.specs.Unit.{Unit, is_neighbour}
use Rattle.ground.proofs.Choices.{by_choice}
use Rattle.ground.specs.Each.{none}
use Rattle.ground.proofs.Each.{each_drop, each_at}
use Rattle.ground.proofs.Lists.{parts}
use Rattle.ground.proofs.Rows.{some_none}
use Rattle.ground.proofs.Tests.{not_both}
use Rattle.rules.proofs.Fit.{FitNetwork}
use Rattle.rules.proofs.Laid.{no_message}
use Rattle.rules.proofs.LaidNetwork.{ShapedNetwork}
use Rattle.rules.proofs.Noted.{up_fit, cost_fit, down_fit, received_fit}
use Rattle.rules.proofs.QueuedMessages.{queued_sender, proper_shaped, queue_proper}
use Rattle.steps.proofs.AcceptedCalls.{Ends, LegalCost, AcceptedUp, AcceptedCost, AcceptedDelivery, message_tree}
use Rattle.steps.proofs.AcceptedCalls.{accepted_up, accepted_cost, accepted_down, accepted_delivery}
use Rattle.steps.proofs.LinkEnds.{end_set}
use Rattle.ground.proofs.Cases.{by_equal}
use Rattle.steps.proofs.NetworkLists.{queue_of_other, emptied, emptied_back, emptied_there}
use Rattle.steps.proofs.OrderlyNetwork.{Orderly, orderly_queue, orderly_happens}

module _ (net : Network) (a b : ℕ) (e : fit_queue net a b ≡ true) where
  -- A fit queue is empty where the sender's end is down.
  queue_quiet : is_up net a b ≡ false → queue net a b ≡ []
  unfolding fit_queue
  queue_quiet closed =
      let some : is_up net a b || eqb (length (queue net a b)) 0 ≡ true = search parts in
      let none : length (queue net a b) ≡ 0 = eqb-true _ 0 (rw closed at some) in
      drop_of_length-le (queue net a b) {i = 0} (omega arith)

-- A fit and shaped network is orderly.
pub orderly_of : (net : Network) → FitNetwork net → ShapedNetwork net → Orderly net
orderly_of net f s =
    record {
      low = f.low;
      high = f.high;
      shape = record { counted = refl; units_length = s.units; queues_length = s.queues; rows_length = s.row };
      counts = f.counts;
      own = f.own;
      fit = f.unit;
      shaped = s.unit;
      queued = λ a b ha hb. queue_proper net a b (f.queued a b ha hb);
      quiet = λ a b ha hb. queue_quiet net a b (f.queued a b ha hb);
    }

-- Each queue has at most its room.
abbrev pub Roomy : Network → Type 0
Roomy net = (a b : ℕ) → a < net.count → b < net.count → length (queue net a b) ≤ queue_room

-- It is so where none overflows.
pub queue-room : (net : Network) → overflows net ≡ false → Roomy net
unfolding overflows
queue-room net e a b ha hb =
    ltb-false queue_room (length (queue net a b))
    (some_none net.count (λ y. ltb queue_room (length (queue net a y)))
    (some_none net.count (λ x. some net.count (λ y. ltb queue_room (length (queue net x y)))) e a ha) b hb)

-- An orderly network whose queues have at most their room is shaped.
pub orderly_shaped : (net : Network) → Orderly net → Roomy net → ShapedNetwork net
orderly_shaped net o roomy =
    record {
      low = omega (arith, o.low);
      high = o.high;
      units = o.shape.units_length;
      counts = o.counts;
      unit = o.shaped;
      queues = o.shape.queues_length;
      row = o.shape.rows_length;
      each = λ a b ha hb. proper_shaped net.count a (queue net a b) (roomy a b ha hb) (o.queued a b ha hb);
    }

-- A link that is up has a cost.
end_open : (u : Unit) (k : ℕ) → is_neighbour u k ≡ true → at u.costs k ≢ 0
end_open u k e = eqb-false (at u.costs k) 0 (not-true (eqb (at u.costs k) 0) e)

-- An event at unit a about its link to unit b.
module _ (net : Network) (o : Orderly net) (a b : ℕ) (t : Ends net.count a b) where
  -- The unit's tables.
  abbrev u : Unit
  u = unit_at net a

  -- Unit b is below what they call the count.
  below : b < u.count
  below = rw (o.counts a t.first) t.second

  -- It is another unit than they call their own.
  another : b ≢ u.me
  another q = t.differ (sym (q ∙ o.own a t.first))

  -- It has its place among the costs.
  place : b < length u.costs
  place = rw (o.shaped a t.first).costs below

  -- With another cost of the link to b there is none queued to a unit whose link is down, if there is none to b.
  still : (c : ℕ) → (c ≡ 0 → queue net a b ≡ []) → (k : ℕ) → k < net.count
      → not (eqb (at (set u.costs b c) k) 0) ≡ false → queue net a k ≡ []
  still c empty k hk closed =
      by_equal k b
      (λ kb. rw kb (empty (eqb-true c 0 (not-false _ (sym (end_set u.costs b c place) ∙ rw kb at closed)))))
      (λ kb. o.quiet a k t.first hk (rw (get_or-set_other u.costs b k c 0 kb) at closed))

  -- The link comes up.
  pub orderly_up : (c : ℕ) → LegalCost c → Orderly (happens net a (link_up b c))
  unfolding noted
  orderly_up c l =
      orderly_happens net o a (link_up b c) t.first
      (up_fit u (o.shaped a t.first) (o.fit a t.first) b c below another l.least l.most)
      (λ k hk e. absurd (omega arith))
      (still c (λ z. absurd (omega arith)))

  -- The link has another cost.
  orderly_cost : (c : ℕ) → LegalCost c → is_up net a b ≡ true → Orderly (happens net a (new_cost b c))
  unfolding noted
  orderly_cost c l opened =
      orderly_happens net o a (new_cost b c) t.first
      (cost_fit u (o.shaped a t.first) (o.fit a t.first) b c below (end_open u b opened) l.least l.most)
      (λ k hk e. absurd (omega arith))
      (still c (λ z. absurd (omega arith)))

  -- The link goes down, with no message queued to b.
  orderly_down : queue net a b ≡ [] → Orderly (happens net a (link_down b))
  unfolding noted
  orderly_down empty =
      orderly_happens net o a (link_down b) t.first
      (down_fit u (o.shaped a t.first) (o.fit a t.first) b below)
      (λ k hk e. absurd (omega arith))
      (still 0 (λ z. empty))

  -- A message from b is received over a link that is up, and leaves a copy that is a tree.
  orderly_received : (m : Message) → m.sender ≡ b → is_up net a b ≡ true
      → is_tree u.count m.sender (applied (copy_of u.copies m.sender) m.changes) ≡ true
      → Orderly (happens net a (received m))
  unfolding noted
  orderly_received m from opened tree =
      orderly_happens net o a (received m) t.first
      (received_fit u (o.shaped a t.first) (o.fit a t.first) m (rw from below) (rw from (end_open u b opened)) tree)
      (λ k hk. by_choice (λ (owed : ℕ). k ≡ owed → is_neighbour u k ≡ true) (holds_update m) m.sender net.count
      (λ _ e. rw (e ∙ from) opened)
      (λ _ e. absurd (omega arith)))
      (λ k hk. o.quiet a k t.first hk)

-- A link's ends the other way round.
pub turned : {n a b : ℕ} → Ends n a b → Ends n b a
turned t = record { first = t.second; second = t.first; differ = λ q. t.differ (sym q) }

module _ (net : Network) (o : Orderly net) (a b : ℕ) (t : Ends net.count a b) where
  -- A link comes up at both ends.
  both_up : (ca cb : ℕ) → LegalCost ca → LegalCost cb → Orderly (happens (happens net a (link_up b ca)) b (link_up a cb))
  unfolding happens reacted
  both_up ca cb la lb =
      orderly_up (happens net a (link_up b ca)) (orderly_up net o a b t ca la) b a (turned t) cb lb

  -- With both queues of a link emptied the network is orderly.
  pub emptied_orderly : Orderly (emptied net a b)
  unfolding with_queue
  emptied_orderly =
      orderly_queue (with_queue net a b [])
      (orderly_queue net o a b [] t.first t.second none (λ _. refl))
      b a [] t.second t.first none (λ _. refl)

  -- Then the link goes down at one end.
  pub first_down : Orderly (happens (emptied net a b) a (link_down b))
  unfolding with_queue
  first_down =
      orderly_down (emptied net a b) emptied_orderly a b t
      (emptied_there net.count net o.shape a b t.first t.second t.differ)

  -- Then at the other.
  both_down : Orderly (happens (happens (emptied net a b) a (link_down b)) b (link_down a))
  unfolding happens reacted with_queue
  both_down =
      orderly_down (happens (emptied net a b) a (link_down b)) first_down b a (turned t)
      (queue_of_other (emptied net a b) a (reaction (unit_at (emptied net a b) a) (link_down b)) b a (turned t).differ
      ∙ emptied_back net.count net o.shape a b t.first t.second)

  -- The first message of a queue is from its sender.
  first_sender : eqb (length (queue net a b)) 0 ≡ false → (next_message (queue net a b)).sender ≡ a
  first_sender e =
      let some : length (queue net a b) ≢ 0 = eqb-false _ 0 e in
      queued_sender net.count a (next_message (queue net a b))
      (each_at (o.queued a b t.first t.second) 0 no_message (omega arith))

  -- It is taken off its queue.
  pub first_taken : is_up net a b ≡ true → Orderly (with_queue net a b (drop 1 (queue net a b)))
  first_taken there =
      orderly_queue net o a b (drop 1 (queue net a b)) t.first t.second
      (each_drop 1 (o.queued a b t.first t.second))
      (λ closed. absurd (not_both (is_up net a b) there closed))

  -- Then it is received.
  delivered : is_up net a b ≡ true → is_up net b a ≡ true → eqb (length (queue net a b)) 0 ≡ false
      → message_refusal (unit_at net b) (next_message (queue net a b)) ≡ accepted
      → Orderly (happens (with_queue net a b (drop 1 (queue net a b))) b (received (next_message (queue net a b))))
  unfolding with_queue
  delivered there back some message =
      orderly_received (with_queue net a b (drop 1 (queue net a b))) (first_taken there) b a (turned t)
      (next_message (queue net a b)) (first_sender some) back
      (message_tree (unit_at net b) (next_message (queue net a b)) message)

module _ (net : Network) (f : FitNetwork net) (s : ShapedNetwork net) where
  -- A call that is not refused leaves the network orderly.
  pub outcome_orderly : (call : Call) (result : Network) → refusal_of net call result ≡ accepted → Orderly (outcome net call)
  unfolding outcome
  outcome_orderly (up a b ca cb) result e =
      let known : AcceptedUp net a b result ca cb = accepted_up net a b result ca cb e in
      both_up net (orderly_of net f s) a b known.ends ca cb known.cost_a known.cost_b
  outcome_orderly (cost a b c) result e =
      let known : AcceptedCost net a b result c = accepted_cost net a b result c e in
      orderly_cost net (orderly_of net f s) a b known.ends c known.cost known.opened
  outcome_orderly (down a b) result e =
      both_down net (orderly_of net f s) a b (accepted_down net a b result e).ends
  outcome_orderly (deliver a b) result e =
      let known : AcceptedDelivery net a b result = accepted_delivery net a b result e in
      delivered net (orderly_of net f s) a b known.ends known.opened
      (f.alike b a known.ends.second known.ends.first ∙ known.opened) known.some known.message

  -- No queue of the result passes its room.
  pub outcome_room : (call : Call) (result : Network) → refusal_of net call result ≡ accepted → Roomy result
  outcome_room (up a b ca cb) result e = queue-room result (accepted_up net a b result ca cb e).room
  outcome_room (cost a b c) result e = queue-room result (accepted_cost net a b result c e).room
  outcome_room (down a b) result e = queue-room result (accepted_down net a b result e).room
  outcome_room (deliver a b) result e = queue-room result (accepted_delivery net a b result e).room

-- A call that is not refused leaves a fit and shaped network shaped.
pub outcome_shaped : (net : Network) → FitNetwork net → ShapedNetwork net → (call : Call)
    → call_refusal net call ≡ accepted → ShapedNetwork (outcome net call)
outcome_shaped net f s call e =
    orderly_shaped (outcome net call) (outcome_orderly net f s call (outcome net call) e)
    (outcome_room net f s call (outcome net call) e)
