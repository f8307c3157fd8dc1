-- From the invariant to the conditions: a fit and shaped network of which the invariant holds is a start.
use Prim.Native.Nat.{ℕ, ◌≤◌, ◌<◌}
use native.Mathlib.Omega.{arith}
use mathlib.Core.Bool.{true, false, not}
use mathlib.Core.Logic.{◌≢◌}
use mathlib.Core.Path.{◌≡◌, sym, ◌∙◌}
use lib.Dec.{leb}
use lib.ListN.{length, get_or}
use borrow.Author.Tests.{eq-eqb, le-leb}
use Rattle.ground.specs.Rows.{at, tab, every}
use Rattle.ground.proofs.Each.{each_at}
use Rattle.ground.proofs.Rows.{tab_ext, tab_row, every_of, eq_same}
use Rattle.ground.proofs.Tests.{both_of, either_left, either_right, not_both, not_of_false}
use Rattle.tree.specs.Tree.{is_tree}
use Rattle.rules.specs.Message.{holds_update, applied}
use Rattle.rules.specs.Network.{Network, unit_at, queue, is_up, fit_network}
use Rattle.rules.specs.Unit.{Unit, is_active, own_distance, copied_distance}
use Rattle.rules.proofs.Laid.{no_message}
use Rattle.rules.proofs.LaidNetwork.{ShapedNetwork}
use Rattle.rules.proofs.QueuedMessages.{message-at}
use Rattle.loopfree.specs.Conditions.{is_settled, is_below_own, updates_in, is_answered, held_copy}
use Rattle.loopfree.specs.Conditions.{acceptable, is_acceptable, gives_tree, is_below_copy, meets_at, meets_between}
use Rattle.loopfree.specs.Conditions.{meets_conditions, is_start}
use Rattle.ground.proofs.Cases.{by_test, by_equal}
use Rattle.loopfree.proofs.Exchange.{only_update}
use Rattle.loopfree.proofs.Invariant.{LineOf, Holds, Any}
use Rattle.loopfree.proofs.InvariantOfConditions.{wait_is}
use Rattle.loopfree.proofs.ShapedStart.{shaped_places}
use Rattle.loopfree.proofs.Sound.{Home}

-- A fit and shaped network of which the invariant holds.
module _ (net : Network) (fit : fit_network net ≡ true) (s : ShapedNetwork net) (holds : Holds net.count Any net) where
  -- A unit that awaits nobody is settled.
  settled_kept : (i : ℕ) → i < net.count → is_settled (unit_at net i) ≡ true
  unfolding is_settled
  settled_kept i h =
      let u : Unit = unit_at net i in
      by_test (is_active u)
      (λ a. either_left (is_active u) _ a)
      (λ p. either_right (is_active u) _
      (both_of _ _ (eq_same _ _ ((holds.home i h).settled p).tree)
      (eq_same u.feasible (tab u.count (own_distance u))
      (sym (tab_row u.count u.feasible 0 (s.unit i h).feasible)
      ∙ tab_ext u.count (at u.feasible) (own_distance u) ((holds.home i h).settled p).feasible))))

  -- Feasible distances are at most the distances.
  own_kept : (i : ℕ) → i < net.count → is_below_own (unit_at net i) ≡ true
  unfolding is_below_own
  own_kept i h =
      let u : Unit = unit_at net i in
      every_of u.count (λ j. leb (at u.feasible j) (own_distance u j)) (λ j l.
      le-leb (at u.feasible j) (own_distance u j) ((holds.home i h).sound.own j))

  module _ (a b : ℕ) (ha : a < net.count) (hb : b < net.count) (d : a ≢ b) (up : is_up net a b ≡ true) where
    -- The direction.
    line : LineOf net.count net a b
    line = holds.lines a b ha hb d

    -- What is awaited is on its way.
    answered_kept : is_answered net a b ≡ true
    unfolding is_answered
    answered_kept = eq-eqb _ _ (line.balance ∙ sym (wait_is (at (unit_at net a).awaited b) line.single))

    -- What is queued is acceptable.
    acceptable_kept : is_acceptable net a b ≡ true
    unfolding is_acceptable acceptable
    acceptable_kept =
        every_of (length (queue net a b)) _ (λ i l.
        rw message-at (by_test (holds_update (get_or (queue net a b) i no_message))
        (λ h. either_right (not (holds_update (get_or (queue net a b) i no_message))) _
        (both_of _ _ (not_of_false _ (each_at line.told i no_message l).changing) (planted i l h)))
        (λ h. either_left (not (holds_update (get_or (queue net a b) i no_message))) _ (not_of_false _ h))))
      where
        planted : (i : ℕ) → i < length (queue net a b) → holds_update (get_or (queue net a b) i no_message) ≡ true
            → is_tree net.count a (applied (held_copy net a b) (get_or (queue net a b) i no_message).changes) ≡ true
        planted i l h =
            let few : updates_in (queue net a b) ≤ 1 = omega (arith, line.balance, line.single) in
            rw (sym (each_at (only_update (held_copy net a b) (queue net a b) few) i no_message l h) ∙ line.arrives up)
            (rw ((holds.home a ha).counted, (holds.home a ha).named) at (holds.home a ha).sound.rooted)

    -- It gives the sender's tree.
    gives_kept : gives_tree net a b ≡ true
    unfolding gives_tree
    gives_kept = eq_same _ _ (line.arrives up)

    -- Feasible distances are at most the distances in the held copy.
    below_kept : is_below_copy net a b ≡ true
    unfolding is_below_copy
    below_kept =
        every_of net.count (λ j. leb (at (unit_at net a).feasible j) (copied_distance (unit_at net b) a j)) (λ j l.
        le-leb (at (unit_at net a).feasible j) (copied_distance (unit_at net b) a j)
        (rw (holds.home b hb).counted (line.lower j)))

  -- What is asked of each direction is so.
  between_kept : (a b : ℕ) → a < net.count → b < net.count → meets_between net a b ≡ true
  between_kept a b ha hb =
      by_test (is_up net a b)
      (λ up. by_equal a b
      (λ e. absurd (not_both (is_up net a b) up (rw (← e) (self_down a ha))))
      (λ d. either_right (not (is_up net a b)) _
      (rw (
        answered_kept a b ha hb d up,
        acceptable_kept a b ha hb d up,
        gives_kept a b ha hb d up,
        below_kept a b ha hb d up,
      ))))
      (λ down. either_left (not (is_up net a b)) _ (not_of_false _ down))
    where
      self_down : (a : ℕ) → a < net.count → is_up net a a ≡ false
      self_down a ha =
          let h : Home net.count a (unit_at net a) = holds.home a ha in
          rw (rw h.named at h.sound.links.self)

  -- The network is a start.
  pub holds_start : is_start net ≡ true
  unfolding is_start meets_conditions
  holds_start =
      rw (
        shaped_places net s,
        fit,
        every_of net.count (λ i. meets_at (unit_at net i)) (λ i h. both_of _ _ (settled_kept i h) (own_kept i h)),
      )
      (every_of net.count (λ a. every net.count (meets_between net a)) (λ a ha.
      every_of net.count (meets_between net a) (λ b hb. between_kept a b ha hb)))
