-- One event at one unit: a reaction keeps the unit sound, leaves it settled where it awaits nobody, and takes every
-- direction out of it from what it is after step A to what a Line asks. `Reacts` gathers what a network needs to know of it.
use Prim.Native.Nat.{ℕ, ◌≤◌, ◌<◌}
use native.Mathlib.Omega.{arith}
use mathlib.Core.Bool.{Bool, true, false, ◌&&◌}
use mathlib.Core.List.{List, [], ◌++◌}
use mathlib.Core.Logic.{◌⊎◌, inl, inr, ⊎_elim}
use mathlib.Core.Path.{◌≡◌, refl, sym, ap, ◌∙◌, subst₂}
use lib.Dec.{eqb}
use lib.ListN.{length, get_or, length-replicate}
use borrow.Author.Tests.{not-true, eq-eqb}
use Rattle.std.specs.Prelude.{if◌then◌else◌}
use Rattle.ground.specs.Limits.{unit_limit}
use Rattle.ground.specs.Rows.{at, zeros, same, some}
use Rattle.ground.proofs.Rows.{length_tab, tab_at, eq_same, some_at}
use Rattle.ground.proofs.Tests.{if_true, if_false, both, not_yes, not_both, not_of_false, and_false}
use Rattle.tree.specs.Tree.{is_tree}
use Rattle.tree.proofs.Recomputed.{recomputed_tree}
use Rattle.tree.proofs.Rooted.{tree_length}
use Rattle.rules.specs.Event.{Event, Reaction, new_of, owed_of, new_tree, new_feasible, changed, is_sent_update, differences_for}
use Rattle.rules.specs.Event.{is_alone, new_awaited, message_to, reaction_by, reaction, changes_nothing}
use Rattle.rules.specs.Message.{Message, applied}
use Rattle.rules.specs.Unit.{Unit, is_neighbour, awaits, is_active}
use Rattle.rules.proofs.TreeEntries.{tree_short}
use Rattle.loopfree.specs.Conditions.{acknowledgments_in}
use Rattle.ground.proofs.Cases.{by_test}
use Rattle.loopfree.proofs.Differences.{differences_carry, differences_change}
use Rattle.loopfree.proofs.Exchange.{Line, one_if, line_sent, line_kept}
use Rattle.loopfree.proofs.Feasible.{passive_waits, lowered_same, tree_kept, tree_new, feasible_own, feasible_copied}
use Rattle.loopfree.proofs.Sent.{From, update_to, answer_to, update_holds, answer_holds, answer_tells, message_is}
use Rattle.loopfree.proofs.Sent.{unchanged, message_acknowledges, message_from, sends_why, keeps_why, awaited_is, sent_at}
use Rattle.loopfree.proofs.Sound.{Links, having, Sound, AtDistances, Settled, Home, Touch}

-- What k should know when the event begins: the unit's tree, or the empty one where k is new.
abbrev pub known_by : Unit → (new k : ℕ) → List ℕ
known_by v new k = if eqb k new then zeros v.count else v.tree

-- The direction from unit i to unit k after step A, before the unit's new tree.
abbrev pub Ready : (n i k : ℕ) (v : Unit) (new : ℕ) (copy : List ℕ) (there back : List Message) → Type 0
Ready n i k v new copy there back =
    Line n i (is_neighbour v k) (at v.awaited k) (known_by v new k) v.feasible copy there back

-- Steps B to F at a sound unit v, which was PASSIVE before step A only if it is so now.
module _ (v : Unit) (was : Bool) (new owed : ℕ) (here : v.me < v.count) (sound : Sound v)
    (calm : was ≡ false → is_active v ≡ false) where
  -- Its new tree, and the unit after the reaction.
  abbrev tree' : List ℕ
  tree' = new_tree v was

  abbrev after : Unit
  after = (reaction_by v was new owed).unit

  -- Where the tree changed, nobody is awaited after step A.
  changed_passive : changed v tree' ≡ true → is_active v ≡ false
  unfolding changed
  changed_passive c =
      by_test was
      (λ a. not_yes (is_active v) (λ w.
      let s : same v.tree tree' ≡ true = eq_same v.tree tree' (sym (tree_kept v was a w)) in
      not_both (same v.tree tree') s (not-true (same v.tree tree') c)))
      calm

  -- The new tree is a tree.
  tree_rooted : is_tree v.count v.me tree' ≡ true
  tree_rooted =
      by_test (was && is_active v)
      (λ a. let w : (was ≡ true) × (is_active v ≡ true) = both was (is_active v) a in
      rw (tree_kept v was w.0 w.1) sound.rooted)
      (λ a. rw (tree_new v was a)
      (recomputed_tree v.count v.me v.costs v.copies here
      (λ k h. sound.links.legal k) (λ k h up. sound.links.copied k h)))

  -- The reaction leaves the unit sound.
  sound_after : Sound after
  unfolding reaction_by new_awaited
  sound_after =
      record {
        links = record {
          costs_length = sound.links.costs_length;
          copies_length = sound.links.copies_length;
          awaited_length = length_tab v.count _;
          legal = sound.links.legal;
          self = sound.links.self;
          copied = sound.links.copied;
        };
        rooted = tree_rooted;
        own = feasible_own v was sound.own;
      }

  -- Where nobody is awaited after the reaction, nobody was sent an update, and nobody was awaited after step A.
  module _ (quiet : is_active after ≡ false) where
    -- The wait on unit k.
    wait_none : (k : ℕ) → k < v.count → (if is_sent_update v tree' new k then 1 else at v.awaited k) ≡ 0
    unfolding reaction_by
    wait_none k h = sym (awaited_is v tree' new owed k h) ∙ passive_waits after quiet k h

    -- No update was sent.
    sent_none : (k : ℕ) → k < v.count → is_sent_update v tree' new k ≡ false
    sent_none k h =
        not_yes (is_sent_update v tree' new k) (λ s. omega (arith, if_true _ 1 (at v.awaited k) s, wait_none k h))

    -- Nobody was awaited.
    was_quiet : is_active v ≡ false
    unfolding is_active
    was_quiet =
        not_yes (is_active v) (λ a.
        let s : (k : ℕ) × (k < v.count) × (awaits v k ≡ true) = some_at v.count (awaits v) a in
        let w : at v.awaited s.0 ≡ 0 =
        sym (if_false _ 1 (at v.awaited s.0) (sent_none s.0 s.1)) ∙ wait_none s.0 s.1 in
        not_both (eqb (at v.awaited s.0) 0) (eq-eqb _ 0 w) (not-true (eqb (at v.awaited s.0) 0) s.2))

    -- Where the tree changed there is no neighbour.
    changed_alone : changed v tree' ≡ true → is_alone v ≡ true
    unfolding is_alone is_sent_update
    changed_alone c =
        not_of_false (some v.count (is_neighbour v)) (not_yes _ (λ a.
        let s : (k : ℕ) × (k < v.count) × (is_neighbour v k ≡ true) = some_at v.count (is_neighbour v) a in
        not_both (is_sent_update v tree' new s.0) (rw (s.2, c)) (sent_none s.0 s.1)))

    -- A unit that was PASSIVE had feasible distances equal to its distances, and so has one that is PASSIVE now: the tree
    -- is the same, or there is no neighbour.
    settled_after : (was ≡ false → AtDistances v) → Settled after
    unfolding reaction_by new_feasible
    settled_after before =
        record {
          tree = tree_new v was (and_false was (is_active v) was_quiet);
          feasible = λ j l. tab_at v.count _ j 0 l ∙ by_test (changed v tree')
              (λ c. rw (c, changed_alone c))
              (λ c. rw c (lowered_same v was tree' j (unchanged v tree' c) was_quiet (λ p. before p j l)));
        }

  module _ (few : v.count ≤ unit_limit) (k : ℕ) (below : k < v.count) where
    -- What k should know has a place for each unit.
    known_length : length (known_by v new k) ≡ v.count
    known_length =
        by_test (eqb k new)
        (λ a. rw a (length-replicate v.count 0))
        (λ a. rw a (tree_length v.count v.me v.tree sound.rooted))

    -- It is the unit's tree or the empty one.
    known_which : (known_by v new k ≡ v.tree) ⊎ (known_by v new k ≡ zeros v.count)
    known_which = by_test (eqb k new) (λ a. inr (rw a)) (λ a. inl (rw a))

    -- Each entry of an update changes something in that.
    update_tells : changes_nothing (known_by v new k) (differences_for v tree' new k) ≡ false
    unfolding differences_for
    update_tells =
        differences_change v.count (known_by v new k) tree' (tree_short v.count v.me tree' tree_rooted few)
        known_length

    -- An update brings k from what it should have known to the new tree.
    update_carries : applied (known_by v new k) (differences_for v tree' new k) ≡ tree'
    unfolding differences_for
    update_carries =
        differences_carry v.count (known_by v new k) tree' (tree_short v.count v.me tree' tree_rooted few)
        known_length (tree_length v.count v.me tree' tree_rooted)

    -- The direction from the unit to k, from what it is after step A to what it is after the reaction.
    send : {copy : List ℕ} {there back : List Message} → (eqb k new ≡ true → at v.awaited k ≡ 0)
        → Ready v.count v.me k v new copy there back
        → Line v.count v.me (is_neighbour after k) (at after.awaited k) after.tree after.feasible copy
        (there ++ message_to v tree' new owed k) back
    unfolding reaction_by
    send fresh l =
        by_test (is_sent_update v tree' new k)
        (λ s. let why : (is_neighbour v k ≡ true) × ((changed v tree' ≡ true) ⊎ (eqb k new ≡ true)) =
        sends_why v tree' new owed k s in
        rw (awaited_is v tree' new owed k below, message_is v tree' new owed k, s)
        (line_sent (update_to v tree' new owed k) tree' (new_feasible v was tree')
        (update_holds v tree' new owed k) update_tells update_carries
        (feasible_copied v was k below known_which l) why.0
        (⊎_elim (λ c. passive_waits v (changed_passive c) k below) fresh why.1) l))
        (λ s. rw (awaited_is v tree' new owed k below, message_is v tree' new owed k, s)
        (line_kept (answer_to v tree' new owed k) tree' (new_feasible v was tree')
        (answer_holds v tree' new owed k) (answer_tells v tree' new owed k)
        (λ up. let why : (v.tree ≡ tree') × (eqb k new ≡ false) = keeps_why v tree' new owed k s up in
        if_false (eqb k new) (zeros v.count) v.tree why.1 ∙ why.0)
        (feasible_copied v was k below known_which l) l))

-- All that a network needs to know of a reaction of its unit i, which is v after step A: the unit is sound and has kept
-- v's costs and copies; what it sends is from it, acknowledges what is owed, and takes each direction out of it to a Line.
pub record Reacts (n i : ℕ) (v : Unit) (new owed : ℕ) (r : Reaction) : Type 0 where
  pub home : Home n i r.unit
  pub costs_held : r.unit.costs ≡ v.costs
  pub copies_held : r.unit.copies ≡ v.copies
  pub signs : (k : ℕ) → k < n → From i (get_or r.sent k [])
  pub answers : (k : ℕ) → k < n → acknowledgments_in (get_or r.sent k []) ≡ one_if (eqb k owed)
  pub sends_on : (k : ℕ) → k < n → (copy : List ℕ) (there back : List Message)
      → (eqb k new ≡ true → at v.awaited k ≡ 0)
      → Ready n i k v new copy there back
      → Line n i (is_neighbour r.unit k) (at r.unit.awaited k) r.unit.tree r.unit.feasible copy
      (there ++ get_or r.sent k []) back

-- It is so of steps B to F at a sound unit, by its own count and number.
reacts_own : (v : Unit) (was : Bool) (new owed : ℕ) → v.count ≤ unit_limit → v.me < v.count → Sound v
    → (was ≡ false → is_active v ≡ false) → (was ≡ false → AtDistances v)
    → Reacts v.count v.me v new owed (reaction_by v was new owed)
unfolding reaction_by
reacts_own v was new owed few here sound calm before =
    let tree : List ℕ = new_tree v was in
    record {
      home = record {
        counted = refl;
        named = refl;
        sound = sound_after v was new owed here sound calm;
        settled = λ quiet. settled_after v was new owed here sound calm quiet before;
      };
      costs_held = refl;
      copies_held = refl;
      signs = λ k h. rw (sent_at v was new owed tree k h) (message_from v tree new owed k);
      answers = λ k h. rw (sent_at v was new owed tree k h) (message_acknowledges v tree new owed k);
      sends_on = λ k h copy there back none l.
          rw (sent_at v was new owed tree k h) (send v was new owed here sound calm few k h none l);
    }

module _ (u : Unit) (e : Event) (b : ℕ) (t : Links) (touch : Touch u e b t) (sound : Sound u) where
  -- The unit after step A.
  abbrev v : Unit
  v = having u t

  -- It is sound.
  noted_sound : Sound v
  noted_sound = record { links = touch.links; rooted = sound.rooted; own = sound.own }

  -- Step A makes no unit ACTIVE.
  still_passive : is_active u ≡ false → is_active v ≡ false
  unfolding is_active
  still_passive p =
      not_yes (is_active v) (λ a.
      let s : (k : ℕ) × (k < u.count) × (awaits v k ≡ true) = some_at u.count (awaits v) a in
      let w : at u.awaited s.0 ≡ 0 = passive_waits u p s.0 s.1 in
      let z : at t.awaited s.0 ≡ 0 = omega (arith, touch.fewer s.0) in
      not_both (eqb (at t.awaited s.0) 0) (eq-eqb _ 0 z) (not-true (eqb (at t.awaited s.0) 0) s.2))

  -- Steps B to F after step A are the reaction.
  reaction_is : reaction u e ≡ reaction_by v (is_active u) (new_of u.count e) (owed_of u.count e)
  unfolding reaction
  reaction_is =
      ap (λ (w : Unit). reaction_by w (is_active u) (new_of u.count e) (owed_of u.count e)) touch.touched

-- The reaction of unit i of n to an event.
pub reacts : (u : Unit) (e : Event) (b : ℕ) (t : Links) → Touch u e b t → (n i : ℕ) → n ≤ unit_limit → i < n → Home n i u
    → Reacts n i (having u t) (new_of n e) (owed_of n e) (reaction u e)
reacts u e b t touch n i few here home =
    subst₂ (λ (m j : ℕ). m ≤ unit_limit → j < m → Reacts m j (having u t) (new_of m e) (owed_of m e) (reaction u e))
    home.counted home.named
    (λ f h. rw (reaction_is u e b t touch home.sound)
    (reacts_own (having u t) (is_active u) (new_of u.count e) (owed_of u.count e) f h
    (noted_sound u e b t touch home.sound) (still_passive u e b t touch home.sound)
    (λ p. (home.settled p).feasible)))
    few here
