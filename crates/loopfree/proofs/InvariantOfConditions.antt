-- From the conditions to the invariant: the invariant holds of a start, a network that meets the conditions.
use Prim.Native.Nat.{ℕ, ◌≤◌, ◌<◌}
use native.Mathlib.Omega.{arith}
use mathlib.Core.Bool.{true, false, not, ◌&&◌}
use mathlib.Core.List.{List, []}
use mathlib.Core.Logic.{⊎_elim}
use mathlib.Core.Path.{◌≡◌, sym, ap, ◌∙◌}
use lib.Dec.{eqb, leb}
use lib.ListN.{length, drop, get_or-eq_default, drop_of_length-le}
use borrow.Author.Tests.{eqb-true, eq-eqb, ne_eqb, leb-true, le-leb, not-true, not-false}
use Rattle.std.specs.Prelude.{if◌then◌else◌}
use Rattle.ground.specs.Limits.{highest_cost}
use Rattle.ground.specs.Rows.{at, tab, every, same}
use Rattle.ground.specs.Each.{Each}
use Rattle.ground.proofs.Each.{each_at, each_of, each_map}
use Rattle.ground.proofs.Lists.{parts}
use Rattle.ground.proofs.Rows.{tab_at, every_at, same_eq}
use Rattle.ground.proofs.Tests.{both, not_both, less_or_not}
use Rattle.tree.specs.Recompute.{recomputed}
use Rattle.tree.specs.Tree.{distance}
use Rattle.tree.proofs.Rooted.{zeros_tree}
use Rattle.rules.specs.Message.{Message, update, holds_update}
use Rattle.rules.specs.Network.{Network, unit_at, queue, is_up, next_message, fit_queued}
use Rattle.rules.specs.Unit.{Unit, is_active, own_distance, copied_distance}
use Rattle.rules.proofs.Fit.{FitNetwork, fit_network_of}
use Rattle.rules.proofs.FitUnit.{FitFacts, fit_facts}
use Rattle.rules.proofs.Laid.{ShapedUnit, no_message}
use Rattle.rules.proofs.LaidNetwork.{ShapedNetwork}
use Rattle.rules.proofs.LegalMessages.{legal_of}
use Rattle.rules.proofs.QueuedMessages.{queued_legal, queued_sender, message-at}
use Rattle.loopfree.specs.Conditions.{is_settled, is_below_own, is_answered, held_copy}
use Rattle.loopfree.specs.Conditions.{acceptable, is_acceptable, gives_tree, is_below_copy, meets_at, meets_between}
use Rattle.loopfree.specs.Conditions.{meets_conditions, is_start}
use Rattle.ground.proofs.Cases.{by_test, by_equal}
use Rattle.steps.proofs.OrderlyCalls.{orderly_of}
use Rattle.steps.proofs.OrderlyNetwork.{Orderly}
use Rattle.loopfree.proofs.Exchange.{Telling, tells_none, line_down}
use Rattle.loopfree.proofs.Invariant.{LineOf, Holds, Any}
use Rattle.loopfree.proofs.Calls.{own_at}
use Rattle.loopfree.proofs.ShapedStart.{start_fit, start_shaped}
use Rattle.loopfree.proofs.Sound.{Settled, Home}
use Rattle.loopfree.proofs.Trees.{zeros_furthest}

-- A wait of at most 1 is 1 where it is one, else 0.
pub wait_is : (w : ℕ) → w ≤ 1 → (if not (eqb w 0) then 1 else 0) ≡ w
wait_is w l =
    by_equal w 0
    (λ z. rw (eq-eqb w 0 z) (sym z))
    (λ d. rw (ne_eqb w 0 d) (omega arith))

-- A row of at most n numbers is below what it is below at each of n places.
row_below : (n : ℕ) (row : List ℕ) (f : ℕ → ℕ) → length row ≡ n → ((j : ℕ) → j < n → at row j ≤ f j)
    → (j : ℕ) → at row j ≤ f j
row_below n row f e h j =
    ⊎_elim (h j) (λ l. omega (arith, get_or-eq_default row 0 {n = j} (rw e l))) (less_or_not j n)

-- A proper message that is acceptable on a copy is told over it.
telling_of : (n sender : ℕ) (copy : List ℕ) (m : Message) → fit_queued n sender m ≡ true
    → acceptable n sender copy m ≡ true → Telling copy m
unfolding acceptable
telling_of n sender copy m fit ok =
    by_test (holds_update m)
    (λ h. record {
      changing = not-true _ (both _ _ (rw h at ok)).0;
      bare = λ d. absurd (not_both (holds_update m) h d);
    })
    (λ h. tells_none (empty h))
  where
    empty : holds_update m ≡ false → m.changes ≡ []
    empty h =
        ⊎_elim
        (λ l. absurd (not_both (holds_update m) (le-leb update m.kind l) h))
        (λ z. drop_of_length-le m.changes {i = 0} (omega arith))
        (legal_of n m (queued_legal n sender m fit)).bit

module _ (net : Network) (e : is_start net ≡ true) where
  -- What it says that the network is fit.
  fits : FitNetwork net
  fits = fit_network_of net (start_fit net e)

  -- What it says of a unit.
  unit_fits : (i : ℕ) → i < net.count → FitFacts (unit_at net i)
  unit_fits i h = fit_facts (unit_at net i) (fits.unit i h)

  -- The network is shaped.
  shaped : ShapedNetwork net
  shaped = start_shaped net e

  -- It is orderly.
  orderly : Orderly net
  orderly = orderly_of net fits shaped

  -- What is asked of a unit is so.
  asked_at : (i : ℕ) → i < net.count → (is_settled (unit_at net i) ≡ true) × (is_below_own (unit_at net i) ≡ true)
  unfolding is_start meets_conditions
  asked_at i h = both _ _ (every_at net.count (λ k. meets_at (unit_at net k)) (search parts) i h)

  -- What is asked of a direction of a link that is up is so.
  asked-between : (a b : ℕ) → a < net.count → b < net.count → is_up net a b ≡ true
      → is_answered net a b && is_acceptable net a b && gives_tree net a b && is_below_copy net a b ≡ true
  unfolding is_start meets_conditions
  asked-between a b ha hb up =
      rw up at
      (every_at net.count (meets_between net a)
      (every_at net.count (λ c. every net.count (meets_between net c)) (search parts) a ha) b hb)

  -- Feasible distances are at most the distances.
  own_below : (i : ℕ) → i < net.count → (j : ℕ) → at (unit_at net i).feasible j ≤ own_distance (unit_at net i) j
  unfolding is_below_own
  own_below i h =
      let u : Unit = unit_at net i in
      row_below u.count u.feasible (own_distance u) (shaped.unit i h).feasible (λ j l.
      leb-true (at u.feasible j) (own_distance u j)
      (every_at u.count (λ x. leb (at u.feasible x) (own_distance u x)) (asked_at i h).1 j l))

  -- A unit that awaits nobody is settled.
  settled_at : (i : ℕ) → i < net.count → is_active (unit_at net i) ≡ false → Settled (unit_at net i)
  unfolding is_settled
  settled_at i h quiet =
      let u : Unit = unit_at net i in
      let s : (same u.tree (recomputed u.count u.me u.costs u.copies) ≡ true)
      × (same u.feasible (tab u.count (own_distance u)) ≡ true) = both _ _ (rw quiet at (asked_at i h).0) in
      record {
        tree = same_eq _ _ s.0;
        feasible = λ j l.
            ap (λ (row : List ℕ). at row j) (same_eq u.feasible (tab u.count (own_distance u)) s.1)
            ∙ tab_at u.count (own_distance u) j 0 l;
      }

  -- A unit's tables are sound and settled.
  home_at : (i : ℕ) → i < net.count → Home net.count i (unit_at net i)
  home_at i h =
      let u : Unit = unit_at net i in
      let f : FitFacts u = unit_fits i h in
      let s : ShapedUnit u = shaped.unit i h in
      record {
        counted = fits.counts i h;
        named = fits.own i h;
        sound = record {
          links = record {
            costs_length = s.costs;
            copies_length = s.copies;
            awaited_length = s.awaited;
            legal = row_below u.count u.costs (λ j. highest_cost) s.costs f.cost;
            self = f.own_cost;
            copied = λ k l. by_equal (at u.costs k) 0
                (λ z. rw (f.copy_down k l z) (zeros_tree u.count k))
                (f.copy_up k l);
          };
          rooted = f.tree;
          own = own_below i h;
        };
        settled = settled_at i h;
      }

  module _ (a b : ℕ) (ha : a < net.count) (hb : b < net.count) where
    -- The tables of the two units.
    abbrev ua : Unit
    ua = unit_at net a

    abbrev ub : Unit
    ub = unit_at net b

    -- Each queued message is told over the held copy.
    all_told : is_up net a b ≡ true → Each (Telling (held_copy net a b)) (queue net a b)
    unfolding is_acceptable
    all_told up =
        each_of (queue net a b) no_message (λ i l.
        telling_of net.count a (held_copy net a b) _ (each_at (orderly.queued a b ha hb) i no_message l)
        (rw message-at at
        (every_at (length (queue net a b))
        (λ k. acceptable net.count a (held_copy net a b) (next_message (drop k (queue net a b))))
        (search (parts, asked-between a b ha hb up)) i l)))

    -- Feasible distances are at most the distances in the held copy.
    copy_below : is_up net a b ≡ true → (j : ℕ) → at ua.feasible j ≤ distance net.count a (held_copy net a b) j
    unfolding is_below_copy
    copy_below up =
        row_below net.count ua.feasible (distance net.count a (held_copy net a b))
        ((shaped.unit a ha).feasible ∙ fits.counts a ha) (λ j l.
        rw (fits.counts b hb) at
        (leb-true (at ua.feasible j) (copied_distance ub a j)
        (every_at net.count (λ x. leb (at ua.feasible x) (copied_distance ub a x))
        (search (parts, asked-between a b ha hb up)) j l)))

    -- The direction of a link that is up.
    line_open : is_up net a b ≡ true → LineOf net.count net a b
    unfolding is_answered gives_tree
    line_open up =
        let low : at ua.awaited b ≤ 1 = (unit_fits a ha).wait b (rw (fits.counts a ha) hb) in
        record {
          balance =
              eqb-true _ _ (search (parts, asked-between a b ha hb up)) ∙ wait_is (at ua.awaited b) low;
          single = low;
          arrives = λ u. same_eq _ _ (search (parts, asked-between a b ha hb up));
          off = λ d. absurd (not_both (is_up net a b) up d);
          lower = copy_below up;
          told = all_told up;
        }

    -- The direction of a link that is down.
    line_closed : is_up net a b ≡ false → LineOf net.count net a b
    line_closed down =
        let back : is_up net b a ≡ false = fits.alike b a hb ha ∙ down in
        rw (
          down,
          (unit_fits a ha).wait_down b (rw (fits.counts a ha) hb) (eqb-true (at ua.costs b) 0 (not-false _ down)),
          (unit_fits b hb).copy_down a (rw (fits.counts b hb) ha) (eqb-true (at ub.costs a) 0 (not-false _ back)),
          orderly.quiet a b ha hb down,
          orderly.quiet b a hb ha back,
          fits.counts b hb,
        )
        (line_down net.count a ua.tree ua.feasible (λ j.
        omega (arith, own_at net.count a ua (home_at a ha) j, zeros_furthest net.count a ua.tree j)))

  -- The invariant holds of a start.
  pub start_holds : Holds net.count Any net
  start_holds =
      record {
        shape = orderly.shape;
        home = home_at;
        signed = λ x y hx hy. each_map (λ m q. queued_sender net.count x m q) (orderly.queued x y hx hy);
        ends = λ x y hx hy d. fits.alike x y hx hy;
        lines = λ x y hx hy d. by_test (is_up net x y) (line_open x y hx hy) (line_closed x y hx hy);
      }
