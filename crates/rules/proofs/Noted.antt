-- Step A of an event touches one link of a unit: its cost, its wait and its copy. A fit unit stays fit where that link is
-- fit then, as it is after each event that is not refused.
use Prim.Native.Nat.{ℕ, ◌≤◌, ◌<◌}
use native.Mathlib.Omega.{arith}
use mathlib.Core.Bool.{Bool, true, false}
use mathlib.Core.List.{List, []}
use mathlib.Core.Logic.{◌≢◌, ⊎_elim}
use mathlib.Core.Path.{◌≡◌, refl, sym, ap, ap₂, ◌∙◌}
use lib.ListN.{set}
use lib.Seq.{get_or-set_same, get_or-set_other, set-get_or}
use Rattle.std.specs.Prelude.{if◌then◌else◌}
use Rattle.ground.specs.Limits.{highest_cost}
use Rattle.ground.specs.Rows.{at, zeros}
use Rattle.tree.specs.Recompute.{copy_of}
use Rattle.tree.specs.Tree.{is_tree}
use Rattle.ground.proofs.Tests.{equal_or_not}
use Rattle.tree.proofs.Rooted.{zeros_tree}
use Rattle.rules.specs.Event.{received, link_up, new_cost, link_down, with_links, noted}
use Rattle.rules.specs.Message.{Message, holds_acknowledgment, holds_update, applied}
use Rattle.rules.specs.Unit.{Unit, fit_unit}
use Rattle.rules.proofs.FitUnit.{FitFacts, fit_facts, facts_fit}
use Rattle.rules.proofs.Laid.{ShapedUnit}

-- The unit with another cost, wait and copy of its link to k.
abbrev pub touched : Unit → (k cost wait : ℕ) (copy : List ℕ) → Unit
touched u k cost wait copy = with_links u (set u.costs k cost) (set u.copies k copy) (set u.awaited k wait)

-- What makes unit me's link to unit k fit, by its cost, wait and copy, in a network of n.
pub record FitTouch (n me k cost wait : ℕ) (copy : List ℕ) : Type 0 where
  pub low : cost ≤ highest_cost
  pub own : k ≡ me → cost ≡ 0
  pub once : wait ≤ 1
  pub wait_down : cost ≡ 0 → wait ≡ 0
  pub copy_down : cost ≡ 0 → copy ≡ zeros n
  pub copy_up : cost ≢ 0 → is_tree n k copy ≡ true

module _ (u : Unit) (s : ShapedUnit u) (f : FitFacts u) (k cost wait : ℕ) (copy : List ℕ) (below : k < u.count)
    (t : FitTouch u.count u.me k cost wait copy) where
  -- Each link of a fit unit is fit.
  untouched : (i : ℕ) → i < u.count → FitTouch u.count u.me i (at u.costs i) (at u.awaited i) (copy_of u.copies i)
  untouched i l =
      record {
        low = f.cost i l;
        own = λ e. ap (at u.costs) e ∙ f.own_cost;
        once = f.wait i l;
        wait_down = f.wait_down i l;
        copy_down = f.copy_down i l;
        copy_up = f.copy_up i l;
      }

  -- Link i is fit in the unit that was touched.
  link_fits : (i : ℕ) → i < u.count
      → FitTouch u.count u.me i
      (at (set u.costs k cost) i) (at (set u.awaited k wait) i) (copy_of (set u.copies k copy) i)
  link_fits i l =
      ⊎_elim
      (λ e.
      rw (
        e,
        get_or-set_same u.costs k cost 0 (omega (arith, s.costs)),
        get_or-set_same u.awaited k wait 0 (omega (arith, s.awaited)),
        get_or-set_same u.copies k copy [] (omega (arith, s.copies)),
      ) t)
      (λ d.
      rw (
        get_or-set_other u.costs k i cost 0 d,
        get_or-set_other u.awaited k i wait 0 d,
        get_or-set_other u.copies k i copy [] d,
      ) (untouched i l))
      (equal_or_not i k)

  -- So the unit is fit.
  pub touched_fit : fit_unit (touched u k cost wait copy) ≡ true
  touched_fit =
      facts_fit (touched u k cost wait copy)
      (record {
        low = f.low;
        high = f.high;
        me = f.me;
        cost = λ i l. (link_fits i l).low;
        own_cost = (link_fits u.me f.me).own refl;
        wait = λ i l. (link_fits i l).once;
        wait_down = λ i l. (link_fits i l).wait_down;
        copy_down = λ i l. (link_fits i l).copy_down;
        copy_up = λ i l. (link_fits i l).copy_up;
        tree = f.tree;
        own_feasible = f.own_feasible;
        feasible = f.feasible;
      })

-- The wait on the sender of a message, and the copy of its tree, once the message is noted.
abbrev wait_after : Unit → Message → ℕ
wait_after u m = if holds_acknowledgment m then 0 else at u.awaited m.sender

abbrev copy_after : Unit → Message → List ℕ
copy_after u m =
    if holds_update m then applied (copy_of u.copies m.sender) m.changes else copy_of u.copies m.sender

-- A message touches its sender's wait and copy.
noted_received : (u : Unit) (m : Message)
    → noted u (received m) ≡ touched u m.sender (at u.costs m.sender) (wait_after u m) (copy_after u m)
unfolding noted
noted_received u m = λ i. with_links u (costs i) (copies (holds_update m) i) (waits (holds_acknowledgment m) i)
  where
    costs : u.costs ≡ set u.costs m.sender (at u.costs m.sender)
    costs = sym (set-get_or u.costs m.sender 0)

    new : List ℕ
    new = applied (copy_of u.copies m.sender) m.changes

    copies : (b : Bool) → (if b then set u.copies m.sender new else u.copies)
        ≡ set u.copies m.sender (if b then new else copy_of u.copies m.sender)
    copies true = refl
    copies false = sym (set-get_or u.copies m.sender [])

    waits : (b : Bool) → (if b then set u.awaited m.sender 0 else u.awaited)
        ≡ set u.awaited m.sender (if b then 0 else at u.awaited m.sender)
    waits true = refl
    waits false = sym (set-get_or u.awaited m.sender 0)

-- Link up touches the cost and the copy.
noted_up : (u : Unit) (k c : ℕ) → noted u (link_up k c) ≡ touched u k c (at u.awaited k) (zeros u.count)
unfolding noted
noted_up u k c =
    ap (with_links u (set u.costs k c) (set u.copies k (zeros u.count))) (sym (set-get_or u.awaited k 0))

-- A new cost touches the cost.
noted_cost : (u : Unit) (k c : ℕ) → noted u (new_cost k c) ≡ touched u k c (at u.awaited k) (copy_of u.copies k)
unfolding noted
noted_cost u k c =
    ap₂ (with_links u (set u.costs k c)) (sym (set-get_or u.copies k [])) (sym (set-get_or u.awaited k 0))

-- Link down touches all three.
noted_down : (u : Unit) (k : ℕ) → noted u (link_down k) ≡ touched u k 0 0 (zeros u.count)
unfolding noted
noted_down u k = refl

module _ (u : Unit) (s : ShapedUnit u) (fit : fit_unit u ≡ true) where
  -- What is fit of the unit before the event.
  abbrev facts : FitFacts u
  facts = fit_facts u fit

  -- Link up, to another unit.
  pub up_fit : (k c : ℕ) → k < u.count → k ≢ u.me → 1 ≤ c → c ≤ highest_cost → fit_unit (noted u (link_up k c)) ≡ true
  up_fit k c below other low high =
      rw noted_up
      (touched_fit u s facts k c (at u.awaited k) (zeros u.count) below
      (record {
        low = high;
        own = λ e. absurd (other e);
        once = facts.wait k below;
        wait_down = λ z. absurd (omega arith);
        copy_down = λ z. refl;
        copy_up = λ d. zeros_tree u.count k;
      }))

  -- A new cost, of a link that is up.
  pub cost_fit : (k c : ℕ) → k < u.count → at u.costs k ≢ 0 → 1 ≤ c → c ≤ highest_cost
      → fit_unit (noted u (new_cost k c)) ≡ true
  cost_fit k c below up low high =
      rw noted_cost
      (touched_fit u s facts k c (at u.awaited k) (copy_of u.copies k) below
      (record {
        low = high;
        own = λ e. absurd (up (ap (at u.costs) e ∙ facts.own_cost));
        once = facts.wait k below;
        wait_down = λ z. absurd (omega arith);
        copy_down = λ z. absurd (omega arith);
        copy_up = λ d. facts.copy_up k below up;
      }))

  -- Link down.
  pub down_fit : (k : ℕ) → k < u.count → fit_unit (noted u (link_down k)) ≡ true
  down_fit k below =
      rw noted_down
      (touched_fit u s facts k 0 0 (zeros u.count) below
      (record {
        low = omega arith;
        own = λ e. refl;
        once = omega arith;
        wait_down = λ z. refl;
        copy_down = λ z. refl;
        copy_up = λ d. zeros_tree u.count k;
      }))

  -- A message from a neighbour whose changed copy is a tree.
  pub received_fit : (m : Message) → m.sender < u.count → at u.costs m.sender ≢ 0
      → is_tree u.count m.sender (applied (copy_of u.copies m.sender) m.changes) ≡ true
      → fit_unit (noted u (received m)) ≡ true
  received_fit m below up tree =
      rw noted_received
      (touched_fit u s facts m.sender (at u.costs m.sender) (wait_after u m) (copy_after u m) below
      (record {
        low = facts.cost m.sender below;
        own = λ e. absurd (up (ap (at u.costs) e ∙ facts.own_cost));
        once = wait (holds_acknowledgment m);
        wait_down = λ z. absurd (up z);
        copy_down = λ z. absurd (up z);
        copy_up = λ d. copy (holds_update m);
      }))
    where
      wait : (b : Bool) → (if b then 0 else at u.awaited m.sender) ≤ 1
      wait true = omega arith
      wait false = facts.wait m.sender below

      copy : (b : Bool)
          → is_tree u.count m.sender
          (if b then applied (copy_of u.copies m.sender) m.changes else copy_of u.copies m.sender)
          ≡ true
      copy true = tree
      copy false = facts.copy_up m.sender below up
