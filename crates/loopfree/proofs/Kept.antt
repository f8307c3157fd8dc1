-- The invariant holds of the fresh network and is kept by every step, refused or not; so it holds of every network that
-- calls reach.
use Prim.Native.Nat.{ℕ, ◌-◌, ◌≤◌, ◌<◌}
use native.Mathlib.Omega.{arith}
use mathlib.Core.Bool.{true, false, true≢false}
use mathlib.Core.List.{List, [], ◌∷◌}
use mathlib.Core.Logic.{⊎_elim}
use mathlib.Core.Path.{◌≡◌, refl, sym, ◌∙◌}
use lib.Dec.{eqb, leb}
use lib.ListN.{length, drop, length-replicate, get_or-eq_default}
use borrow.Author.Tests.{leb-true, eqb-true, eq-eqb, ne_eqb}
use Rattle.std.specs.Prelude.{if◌then◌else◌}
use Rattle.ground.specs.Limits.{far, unit_limit, legal_count}
use Rattle.ground.specs.Refusal.{accepted}
use Rattle.ground.specs.Rows.{at, zeros}
use Rattle.ground.specs.Each.{none}
use Rattle.ground.proofs.Lists.{at_zeros}
use Rattle.ground.proofs.Rows.{tab_at, length_tab}
use Rattle.ground.proofs.Tests.{both, less_or_not}
use Rattle.tree.specs.Tree.{distance}
use Rattle.tree.proofs.Alone.{alone_recomputed}
use Rattle.tree.proofs.Rooted.{zeros_tree}
use Rattle.tree.proofs.Tree.{distance_root, distance_none}
use Rattle.rules.specs.Event.{received, message_refusal}
use Rattle.rules.specs.Message.{Message}
use Rattle.rules.specs.Network.{Network, Call, up, cost, down, deliver, unit_at, queue}
use Rattle.rules.specs.Network.{fresh, next_message, with_queue, happens, outcome, refusal_of, step_to, step}
use Rattle.rules.specs.Unit.{fresh_unit}
use Rattle.loopfree.specs.Reached.{run, reached}
use Rattle.steps.proofs.AcceptedCalls.{Ends, AcceptedUp, AcceptedCost, AcceptedDelivery, message_tree}
use Rattle.steps.proofs.AcceptedCalls.{accepted_up, accepted_cost, accepted_down, accepted_delivery}
use Rattle.loopfree.proofs.Calls.{keeps_cost, keeps_up, keeps_down, keeps_delivery}
use Rattle.ground.proofs.Cases.{by_test, by_equal}
use Rattle.steps.proofs.Fresh.{fresh_copy, fresh_down, fresh_shape, fresh-unit, fresh_queue}
use Rattle.loopfree.proofs.Exchange.{line_down}
use Rattle.loopfree.proofs.Invariant.{Direction, Holds, Any}
use Rattle.loopfree.proofs.Sound.{Home}

module _ (n : ℕ) (few : n ≤ unit_limit) (net : Network) (holds : Holds n Any net) where
  -- Different units below the network's count are so below n.
  ends_below : (a b : ℕ) → Ends net.count a b → Ends n a b
  ends_below a b t = rw holds.shape.counted at t

  -- A delivery from a queue that is not empty takes its first message.
  keeps_first : (a b : ℕ) → Ends n a b → (messages : List Message) → queue net a b ≡ messages
      → eqb (length messages) 0 ≡ false → message_refusal (unit_at net b) (next_message messages) ≡ accepted
      → Holds n Any (happens (with_queue net a b (drop 1 messages)) b (received (next_message messages)))
  keeps_first a b t [] q e r = absurd (true≢false e)
  keeps_first a b t (m ∷ rest) q e r =
      keeps_delivery n few net holds a b t.first t.second t.differ m rest q (message_tree (unit_at net b) m r)

  -- An accepted call keeps the invariant.
  pub keeps_call : (call : Call) (result : Network) → refusal_of net call result ≡ accepted → Holds n Any (outcome net call)
  unfolding outcome
  keeps_call (up a b ca cb) result e =
      let known : AcceptedUp net a b result ca cb = accepted_up net a b result ca cb e in
      let t : Ends n a b = ends_below a b known.ends in
      keeps_up n few net holds a b t.first t.second t.differ ca cb known.cost_a known.cost_b known.closed
  keeps_call (cost a b c) result e =
      let known : AcceptedCost net a b result c = accepted_cost net a b result c e in
      let t : Ends n a b = ends_below a b known.ends in
      keeps_cost n few net holds a b t.first t.second t.differ c known.cost known.opened
  keeps_call (down a b) result e =
      let t : Ends n a b = ends_below a b (accepted_down net a b result e).ends in
      keeps_down n few net holds a b t.first t.second t.differ
  keeps_call (deliver a b) result e =
      let known : AcceptedDelivery net a b result = accepted_delivery net a b result e in
      keeps_first a b (ends_below a b known.ends) (queue net a b) refl known.some known.message

  -- A step keeps the invariant: a refused one changes nothing.
  pub keeps_step : (call : Call) → Holds n Any (step net call)
  unfolding step step_to
  keeps_step call =
      by_test (eqb (refusal_of net call (outcome net call)) accepted)
      (λ t. rw t (keeps_call call (outcome net call) (eqb-true _ accepted t)))
      (λ t. rw t holds)

-- Calls one after the other keep the invariant.
pub keeps_run : (n : ℕ) → n ≤ unit_limit → (net : Network) → Holds n Any net → (calls : List Call) → Holds n Any (run net calls)
unfolding run
keeps_run n few net holds [] = holds
keeps_run n few net holds (call ∷ rest) = keeps_run n few (step net call) (keeps_step n few net holds call) rest

-- "feasible distance 0 to itself and unreachable to others": the distances in the empty tree.
fresh_distance : (n i j : ℕ) → j < n → at (fresh_unit n i).feasible j ≡ distance n i (zeros n) j
unfolding fresh_unit
fresh_distance n i j l =
    tab_at n (λ x. if eqb x i then 0 else far) j 0 l
    ∙ by_equal j i
    (λ e. rw (eq-eqb j i e) (sym (distance_root i (zeros n) (n - 1) j e)))
    (λ e. rw (ne_eqb j i e) (sym (distance_none i (zeros n) (n - 1) j e (at_zeros n j))))

-- So they are at most these.
fresh_feasible : (n i j : ℕ) → at (fresh_unit n i).feasible j ≤ distance n i (zeros n) j
unfolding fresh_unit
fresh_feasible n i j =
    ⊎_elim
    (λ l. omega (arith, fresh_distance n i j l))
    (λ l. omega (arith, get_or-eq_default (fresh_unit n i).feasible 0 {n = j} (rw (length_tab n) l)))
    (less_or_not j n)

-- A fresh unit is sound and settled.
fresh_home : (n i : ℕ) → i < n → Home n i (fresh_unit n i)
unfolding fresh_unit
fresh_home n i h =
    record {
      counted = refl;
      named = refl;
      sound = record {
        links = record {
          costs_length = length-replicate n 0;
          copies_length = length_tab n _;
          awaited_length = length-replicate n 0;
          legal = λ k. rw (at_zeros n k) (omega arith);
          self = at_zeros n i;
          copied = λ k h. rw (fresh_copy n i k h) (zeros_tree n k);
        };
        rooted = zeros_tree n i;
        own = fresh_feasible n i;
      };
      settled = λ quiet. record {
        tree = sym (alone_recomputed n i (zeros n) _ h (λ k l. at_zeros n k));
        feasible = fresh_distance n i;
      };
    }

-- A direction between two fresh units is one of a link that is down.
fresh_line : (n x y : ℕ) → x < n → Direction n x y (fresh_unit n x) (fresh_unit n y) [] []
unfolding fresh_unit
fresh_line n x y h =
    rw (at_zeros n y, fresh_copy n y x h) (line_down n x (zeros n) (fresh_unit n x).feasible (fresh_feasible n x))

-- The invariant holds of the fresh network.
pub fresh_holds : (n : ℕ) → Holds n Any (fresh n)
fresh_holds n =
    record {
      shape = fresh_shape n;
      home = λ i h. rw (fresh-unit n i h) (fresh_home n i h);
      signed = λ x y hx hy. rw (fresh_queue n x y hx hy) none;
      ends = λ x y hx hy d. rw (fresh-unit n x hx, fresh-unit n y hy) (fresh_down n x y ∙ sym (fresh_down n y x));
      lines = λ x y hx hy d.
          rw (fresh-unit n x hx, fresh-unit n y hy, fresh_queue n x y hx hy, fresh_queue n y x hy hx) (fresh_line n x y hx);
    }

-- It holds of every network that calls reach.
pub reached_holds : (n : ℕ) → legal_count n ≡ true → (calls : List Call) → Holds n Any (reached n calls)
reached_holds n legal calls =
    keeps_run n (omega (arith, leb-true n unit_limit (both (leb 2 n) (leb n unit_limit) legal).1)) (fresh n)
    (fresh_holds n) calls
