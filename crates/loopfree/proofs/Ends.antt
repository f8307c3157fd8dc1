-- An event at one end of a link, or one at each end, keeps the invariant: it is enough to know each direction of that
-- link after step A. With two events the ends' order plays no part: each direction goes out of one end by `sends_on`,
-- whatever the other end's copy and answers are by then.
use Prim.Native.Nat.{ℕ, ◌≤◌, ◌<◌}
use mathlib.Core.Bool.{true, false, not}
use mathlib.Core.List.{[], ◌++◌}
use mathlib.Core.Logic.{◌≢◌}
use mathlib.Core.Path.{◌≡◌, sym, ap, ◌∙◌}
use lib.Dec.{eqb}
use lib.ListN.{get_or}
use Rattle.ground.specs.Limits.{unit_limit}
use Rattle.ground.specs.Rows.{at}
use Rattle.tree.specs.Recompute.{copy_of}
use Rattle.rules.specs.Event.{Event, Reaction, new_of, owed_of, reaction}
use Rattle.rules.specs.Network.{Network, unit_at, queue, is_up, happens}
use Rattle.loopfree.proofs.Exchange.{Line, one_if, line_back}
use Rattle.loopfree.proofs.Invariant.{Holds, Any, Apart, apart_turned, holds_fewer, holds_all}
use Rattle.loopfree.proofs.Invariant.{holds_reaction, facts, line_out, line_in, up_same, up_here}
use Rattle.loopfree.proofs.Reaction.{Ready, Reacts, reacts}
use Rattle.steps.proofs.NetworkLists.{unit_here, unit_elsewhere, queue-from, queue_of_other}
use Rattle.loopfree.proofs.Sound.{Links, having, Touch, is_new, is_owed}

module _ (n a b : ℕ) (net : Network) (ha : a < n) (hb : b < n) (d : a ≢ b) (few : n ≤ unit_limit)
    (holds : Holds n (Apart a b) net)
    (ea : Event) (ta : Links) (touchA : Touch (unit_at net a) ea b ta) where
  -- The reaction at a.
  abbrev ra : Reaction
  ra = reaction (unit_at net a) ea

  -- An event at a alone.
  pub one_end : not (eqb (at ta.costs b) 0) ≡ is_up net b a → (is_new n ea b ≡ true → at ta.awaited b ≡ 0)
      → Ready n a b (having (unit_at net a) ta) (new_of n ea) (copy_of (unit_at net b).copies a) (queue net a b) (queue net b a)
      → Line n b (is_up net b a) (at (unit_at net b).awaited a) (unit_at net b).tree (unit_at net b).feasible
      (copy_of ta.copies b) (queue net b a) (queue net a b ++ get_or ra.sent b [])
      → Holds n Any (happens net a ea)
  one_end ends new there back =
      holds_all a b (holds_reaction n a b net ha hb holds few ea ta touchA)
      (up_here n a b net ha hb holds few ea ta touchA ∙ ends
      ∙ sym (up_same n a b net ha hb holds few ea ta touchA b a (λ p q. d q)))
      (line_out n a b net ha hb holds few ea ta touchA b hb (λ q. d (sym q)) new there)
      (line_in n a b net ha hb holds few ea ta touchA b hb (λ q. d (sym q)) back)

  -- An event at a, then one at b.
  module _ (eb : Event) (tb : Links) (touchB : Touch (unit_at net b) eb a tb)
      (no-a : is_owed n ea b ≡ false) (no-b : is_owed n eb a ≡ false) where
    -- The network between the two, and the reaction at b.
    abbrev one : Network
    one = happens net a ea

    abbrev rb : Reaction
    rb = reaction (unit_at net b) eb

    -- Unit a in between.
    unit_a : unit_at one a ≡ ra.unit
    unfolding happens
    unit_a = unit_here n net holds.shape a ra ha

    -- Unit b in between.
    unit_b : unit_at one b ≡ unit_at net b
    unfolding happens
    unit_b = unit_elsewhere net a ra b (λ q. d (sym q))

    -- The queue from a to b in between.
    queue_ab : queue one a b ≡ queue net a b ++ get_or ra.sent b []
    unfolding happens
    queue_ab = queue-from n net holds.shape a ra ha b hb

    -- The queue from b to a in between.
    queue_ba : queue one b a ≡ queue net b a
    unfolding happens
    queue_ba = queue_of_other net a ra b a (λ q. d (sym q))

    -- What holds in between.
    between : Holds n (Apart b a) one
    between = holds_fewer (λ x y. apart_turned x y) (holds_reaction n a b net ha hb holds few ea ta touchA)

    -- Step A at b then.
    touch_b : Touch (unit_at one b) eb a tb
    touch_b = rw unit_b touchB

    -- What is known of the reaction at a.
    facts_a : Reacts n a (having (unit_at net a) ta) (new_of n ea) (owed_of n ea) ra
    facts_a = facts n a b net ha hb holds few ea ta touchA

    -- What is known of the reaction at b.
    facts_b : Reacts n b (having (unit_at net b) tb) (new_of n eb) (owed_of n eb) rb
    facts_b = reacts (unit_at net b) eb a tb touchB n b few hb (holds.home b hb)

    -- After both the invariant holds.
    pub two_ends : not (eqb (at ta.costs b) 0) ≡ not (eqb (at tb.costs a) 0)
        → (is_new n ea b ≡ true → at ta.awaited b ≡ 0) → (is_new n eb a ≡ true → at tb.awaited a ≡ 0)
        → Ready n a b (having (unit_at net a) ta) (new_of n ea) (copy_of tb.copies a) (queue net a b) (queue net b a)
        → Ready n b a (having (unit_at net b) tb) (new_of n eb) (copy_of ta.copies b) (queue net b a) (queue net a b)
        → Holds n Any (happens one b eb)
    two_ends ends new-a new-b ready-a ready-b =
        holds_all b a (holds_reaction n b a one hb ha between few eb tb touch_b)
        (up_here n b a one hb ha between few eb tb touch_b
        ∙ sym ends
        ∙ sym (up_here n a b net ha hb holds few ea ta touchA)
        ∙ sym (up_same n b a one hb ha between few eb tb touch_b a b (λ p q. d p)))
        (line_out n b a one hb ha between few eb tb touch_b a ha d new-b
        (rw (unit_a, unit_b, queue_ab, queue_ba, facts_a.copies_held)
        (line_back (get_or ra.sent b []) (facts_a.answers b hb ∙ ap one_if no-a) ready-b)))
        (line_in n b a one hb ha between few eb tb touch_b a ha d
        (rw (unit_a, unit_b, queue_ab, queue_ba)
        (facts_a.sends_on b hb (copy_of tb.copies a) (queue net a b) (queue net b a ++ get_or rb.sent a []) new-a
        (line_back (get_or rb.sent a []) (facts_b.answers a ha ∙ ap one_if no-b) ready-a))))
