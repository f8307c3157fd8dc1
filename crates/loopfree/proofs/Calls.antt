-- Every accepted call keeps the invariant, each by the state of its link's two directions after step A.
use Prim.Native.Nat.{ℕ, ◌≤◌, ◌<◌}
use native.Mathlib.Omega.{arith}
use mathlib.Core.Bool.{true, false, not, true≢false}
use mathlib.Core.List.{List, [], ◌∷◌}
use mathlib.Core.Logic.{◌≢◌}
use mathlib.Core.Path.{◌≡◌, refl, sym, ap, ◌∙◌}
use lib.Dec.{eqb}
use lib.ListN.{length, get_or, set}
use lib.Seq.{get_or-set_same}
use borrow.Author.Tests.{eq-eqb}
use Rattle.std.specs.Prelude.{if◌then◌else◌}
use Rattle.ground.specs.Limits.{unit_limit}
use Rattle.ground.specs.Rows.{at, zeros}
use Rattle.ground.specs.Each.{none}
use Rattle.ground.proofs.Each.{each_first, each_rest}
use Rattle.tree.specs.Recompute.{copy_of}
use Rattle.tree.specs.Tree.{distance, is_tree}
use Rattle.rules.specs.Event.{received, link_up, new_cost, link_down, owed_of, reaction}
use Rattle.rules.specs.Message.{Message, holds_update, holds_acknowledgment, applied}
use Rattle.rules.specs.Network.{Network, unit_at, queue, is_up, with_queue, happens}
use Rattle.rules.specs.Unit.{Unit}
use Rattle.loopfree.specs.Conditions.{acknowledgments_in, heard}
use Rattle.steps.proofs.AcceptedCalls.{LegalCost}
use Rattle.ground.proofs.Cases.{by_test}
use Rattle.steps.proofs.LinkEnds.{end_set, end_up}
use Rattle.steps.proofs.SentMessages.{not_count}
use Rattle.loopfree.proofs.Ends.{one_end, two_ends}
use Rattle.loopfree.proofs.Events.{on_received, on_up, on_cost, on_down, touch_received, touch_up, touch_cost, touch_down}
use Rattle.loopfree.proofs.Exchange.{one_if, line_back, line_answered, line_heard, line_up, line_down}
use Rattle.loopfree.proofs.Invariant.{LineOf, Holds, Any, Apart, apart_turned, holds_fewer, holds_queue}
use Rattle.loopfree.proofs.Reaction.{Ready, Reacts, reacts}
use Rattle.loopfree.proofs.Sent.{From}
use Rattle.steps.proofs.NetworkLists.{queue_here, queue_elsewhere, emptied, emptied_back, emptied_there}
use Rattle.loopfree.proofs.Sound.{Home, Touch, having, is_owed}
use Rattle.loopfree.proofs.Trees.{zeros_furthest}

module _ (n a : ℕ) (u : Unit) (home : Home n a u) (b : ℕ) (hb : b < n) where
  -- Unit b is below what a's tables call the count.
  below : b < u.count
  below = rw home.counted hb

  -- It has its place among a's costs.
  costs_place : b < length u.costs
  costs_place = rw home.sound.links.costs_length below

  -- It has its place among a's waits.
  awaited_place : b < length u.awaited
  awaited_place = rw home.sound.links.awaited_length below

  -- What a's copy of b is where the link comes up or goes down.
  empty_copy : copy_of (set u.copies b (zeros u.count)) b ≡ zeros n
  empty_copy =
      get_or-set_same u.copies b (zeros u.count) [] (rw home.sound.links.copies_length below)
      ∙ ap zeros home.counted

  -- Another unit than a is another than what a's tables call it.
  not_me : a ≢ b → b ≢ u.me
  not_me d e = d (sym (e ∙ home.named))

-- The count stands for no new neighbour.
none_new : (n k : ℕ) → k < n → {A : Type 0} → eqb k n ≡ true → A
none_new n k h w = absurd (true≢false (sym w ∙ not_count n k h))

-- Feasible distances are at most the distances in the own tree, by the network's count and number.
pub own_at : (n a : ℕ) (u : Unit) → Home n a u → (j : ℕ) → at u.feasible j ≤ distance n a u.tree j
own_at n a u home j = rw (home.counted, home.named) at (home.sound.own j)

module _ (n : ℕ) (few : n ≤ unit_limit) (net : Network) (holds : Holds n Any net) where
  -- The invariant but for the link between two units.
  apart : (a b : ℕ) → Holds n (Apart a b) net
  apart a b = holds_fewer (λ x y d. d.0) holds

  module _ (a b : ℕ) (ha : a < n) (hb : b < n) (d : a ≢ b) where
    -- The two ends' tables.
    abbrev ua : Unit
    ua = unit_at net a

    abbrev ub : Unit
    ub = unit_at net b

    -- They are sound.
    home_a : Home n a ua
    home_a = holds.home a ha

    home_b : Home n b ub
    home_b = holds.home b hb

    -- The cost of a link that is up changes at a's end.
    pub keeps_cost : (c : ℕ) → LegalCost c → is_up net a b ≡ true → Holds n Any (happens net a (new_cost b c))
    keeps_cost c l up =
        let now : not (eqb (at (set ua.costs b c) b) 0) ≡ true =
        end_up ua.costs b c (costs_place n a ua home_a b hb) l in
        let touch : Touch ua (new_cost b c) b (on_cost ua b c) =
        touch_cost ua home_a.sound b (below n a ua home_a b hb) (not_me n a ua home_a b hb d) c l.most in
        let facts : Reacts n a (having ua (on_cost ua b c)) n n (reaction ua (new_cost b c)) =
        reacts ua (new_cost b c) b (on_cost ua b c) touch n a few ha home_a in
        one_end n a b net ha hb d few (apart a b) (new_cost b c) (on_cost ua b c) touch
        (now ∙ sym up ∙ holds.ends a b ha hb d)
        (none_new n b hb)
        (rw (now, not_count n b hb) (rw up at (holds.lines a b ha hb d)))
        (line_back _ (facts.answers b hb ∙ ap one_if (not_count n b hb)) (holds.lines b a hb ha (λ q. d (sym q))))

    -- The link comes up: the direction from a to b after step A at both ends.
    ready_up : (c : ℕ) → LegalCost c → is_up net a b ≡ false
        → Ready n a b (having ua (on_up ua b c)) b (copy_of (set ub.copies a (zeros ub.count)) a)
        (queue net a b) (queue net b a)
    ready_up c l down =
        let line : LineOf n net a b = holds.lines a b ha hb d in
        rw (
          end_up ua.costs b c (costs_place n a ua home_a b hb) l,
          eq-eqb b b refl,
          home_a.counted,
          empty_copy n b ub home_b a ha,
        )
        (rw (line.off down).1 at (line_up down line))

    -- Its end at a did not wait.
    no_wait : is_up net a b ≡ false → at ua.awaited b ≡ 0
    no_wait down = ((holds.lines a b ha hb d).off down).0

    -- What b's copy of a is once a message of a's is received.
    copy_heard : (m : Message)
        → copy_of (on_received ub m a).copies a ≡ heard (copy_of ub.copies a) m
    copy_heard m =
        by_test (holds_update m)
        (λ h. rw (h, get_or-set_same ub.copies a (applied (copy_of ub.copies a) m.changes) [] place))
        (λ h. rw h)
      where
        place : a < length ub.copies
        place = rw home_b.sound.links.copies_length (below n b ub home_b a ha)

    -- What b's wait on a is then.
    wait_left : (m : Message)
        → at (on_received ub m a).awaited a ≡ (if holds_acknowledgment m then 0 else at ub.awaited a)
    wait_left m =
        by_test (holds_acknowledgment m)
        (λ h. rw h (get_or-set_same ub.awaited a 0 0 (awaited_place n b ub home_b a ha)))
        (λ h. rw h)

    -- The first message from a to b is received: it came from a, and leaves b's copy a tree.
    module _ (m : Message) (rest : List Message) (first : queue net a b ≡ m ∷ rest)
        (tree : is_tree ub.count m.sender (applied (copy_of ub.copies m.sender) m.changes) ≡ true) where
      -- The network with the message taken off its queue.
      abbrev shorter : Network
      shorter = with_queue net a b rest

      -- The queue's messages are from a.
      from_a : From a (m ∷ rest)
      from_a = rw first at (holds.signed a b ha hb)

      -- Step A at b.
      touch : Touch ub (received m) a (on_received ub m a)
      touch = touch_received ub home_b.sound m a (each_first from_a) (below n b ub home_b a ha) tree

      -- The reaction at b.
      facts : Reacts n b (having ub (on_received ub m a)) n (owed_of n (received m)) (reaction ub (received m))
      facts = reacts ub (received m) a (on_received ub m a) touch n b few hb home_b

      -- It acknowledges the message where that held an update.
      answered : acknowledgments_in (get_or (reaction ub (received m)).sent a []) ≡ one_if (holds_update m)
      answered =
          facts.answers a ha
          ∙ ap one_if owed
        where
          owed : is_owed n (received m) a ≡ holds_update m
          owed =
              by_test (holds_update m)
              (λ h. rw h (eq-eqb a m.sender (sym (each_first from_a))))
              (λ h. rw h (not_count n a ha))

      -- The delivery keeps the invariant.
      pub keeps_delivery : Holds n Any (happens shorter b (received m))
      unfolding with_queue
      keeps_delivery =
          let e : b ≢ a = λ q. d (sym q) in
          one_end n b a shorter hb ha e few
          (holds_fewer (λ x y. apart_turned x y) (holds_queue n a b net ha hb (apart a b) rest (each_rest from_a)))
          (received m) (on_received ub m a) touch
          (holds.ends b a hb ha e)
          (none_new n a ha)
          (rw (wait_left m, there, back, not_count n a ha) (line_answered m (rw first at (holds.lines b a hb ha e))))
          (rw (copy_heard m, there, back)
          (line_heard m _ answered (own_at n a ua home_a) (rw first at (holds.lines a b ha hb d))))
        where
          there : queue shorter a b ≡ rest
          there = queue_here n net holds.shape a b rest ha hb

          back : queue shorter b a ≡ queue net b a
          back = queue_elsewhere n net holds.shape a b rest ha hb b a (λ p q. d q)

-- The link between a and b comes up.
pub keeps_up : (n : ℕ) → n ≤ unit_limit → (net : Network) → Holds n Any net → (a b : ℕ) → a < n → b < n → a ≢ b
    → (costOfA costOfB : ℕ) → LegalCost costOfA → LegalCost costOfB → is_up net a b ≡ false
    → Holds n Any (happens (happens net a (link_up b costOfA)) b (link_up a costOfB))
keeps_up n few net holds a b ha hb d ca cb la lb down =
    let e : b ≢ a = λ q. d (sym q) in
    let ua : Unit = unit_at net a in
    let ub : Unit = unit_at net b in
    let home_a : Home n a ua = holds.home a ha in
    let home_b : Home n b ub = holds.home b hb in
    let down' : is_up net b a ≡ false = sym (holds.ends a b ha hb d) ∙ down in
    two_ends n a b net ha hb d few (apart n few net holds a b)
    (link_up b ca) (on_up ua b ca)
    (touch_up ua home_a.sound b (below n a ua home_a b hb) (not_me n a ua home_a b hb d) ca la.most)
    (link_up a cb) (on_up ub a cb)
    (touch_up ub home_b.sound a (below n b ub home_b a ha) (not_me n b ub home_b a ha e) cb lb.most)
    (not_count n b hb) (not_count n a ha)
    (end_up ua.costs b ca (costs_place n a ua home_a b hb) la
    ∙ sym (end_up ub.costs a cb (costs_place n b ub home_b a ha) lb))
    (λ w. no_wait n few net holds a b ha hb d down)
    (λ w. no_wait n few net holds b a hb ha e down')
    (ready_up n few net holds a b ha hb d ca la down)
    (ready_up n few net holds b a hb ha e cb lb down')

-- The link goes down: the direction from a to b after step A at both ends, its queues empty.
ready_down : (n a b : ℕ) (u w : Unit) → a < n → b < n → Home n a u → Home n b w
    → Ready n a b (having u (on_down u b)) n (copy_of (set w.copies a (zeros w.count)) a) [] []
ready_down n a b u w ha hb home_a home_b =
    rw (
      end_set u.costs b 0 (costs_place n a u home_a b hb),
      get_or-set_same u.awaited b 0 0 (awaited_place n a u home_a b hb),
      empty_copy n b w home_b a ha,
      not_count n b hb,
    )
    (line_down n a u.tree u.feasible (λ j. omega (arith, own_at n a u home_a j, zeros_furthest n a u.tree j)))

-- The link between a and b goes down, its queues emptied first.
pub keeps_down : (n : ℕ) → n ≤ unit_limit → (net : Network) → Holds n Any net → (a b : ℕ) → a < n → b < n → a ≢ b
    → Holds n Any (happens (happens (emptied net a b) a (link_down b)) b (link_down a))
keeps_down n few net holds a b ha hb d =
    let e : b ≢ a = λ q. d (sym q) in
    let half : Network = with_queue net a b [] in
    let halved : Holds n (Apart a b) half = holds_queue n a b net ha hb (apart n few net holds a b) [] none in
    let held : Holds n (Apart a b) (emptied net a b) =
    holds_fewer (λ x y. apart_turned x y)
    (holds_queue n b a half hb ha (holds_fewer (λ x y. apart_turned x y) halved) [] none) in
    let ua : Unit = unit_at (emptied net a b) a in
    let ub : Unit = unit_at (emptied net a b) b in
    let home_a : Home n a ua = held.home a ha in
    let home_b : Home n b ub = held.home b hb in
    let back : queue (emptied net a b) b a ≡ [] = emptied_back n net holds.shape a b ha hb in
    let there : queue (emptied net a b) a b ≡ [] = emptied_there n net holds.shape a b ha hb d in
    two_ends n a b (emptied net a b) ha hb d few held
    (link_down b) (on_down ua b)
    (touch_down ua home_a.sound b (below n a ua home_a b hb) (not_me n a ua home_a b hb d))
    (link_down a) (on_down ub a)
    (touch_down ub home_b.sound a (below n b ub home_b a ha) (not_me n b ub home_b a ha e))
    (not_count n b hb) (not_count n a ha)
    (end_set ua.costs b 0 (costs_place n a ua home_a b hb)
    ∙ sym (end_set ub.costs a 0 (costs_place n b ub home_b a ha)))
    (none_new n b hb)
    (none_new n a ha)
    (rw (there, back) (ready_down n a b ua ub ha hb home_a home_b))
    (rw (there, back) (ready_down n b a ub ua hb ha home_b home_a))
