-- What a fit unit sends, once step A of an event has left it fit: legal messages from itself, and none to a unit that is
-- neither a neighbour nor owed an acknowledgment.
use Prim.Native.Nat.{ℕ, ◌+◌, ◌≤◌, ◌<◌}
use native.Mathlib.Omega.{arith}
use mathlib.Core.Bool.{Bool, true, false}
use mathlib.Core.List.{List, [], ◌∷◌}
use mathlib.Core.Logic.{◌≢◌}
use mathlib.Core.Path.{◌≡◌, refl, subst₂, ◌∙◌}
use borrow.Author.Tests.{eq-eqb, ne_eqb}
use lib.Dec.{eqb}
use lib.ListN.{length, get_or}
use Rattle.std.specs.Prelude.{if◌then◌else◌}
use Rattle.ground.specs.Rows.{zeros}
use Rattle.tree.specs.Tree.{is_tree}
use Rattle.rules.specs.Event.{Event, link_down, Reaction, noted, new_of, owed_of, new_tree, is_sent_update, differences_for, message_to}
use Rattle.rules.specs.Event.{reaction_by, reaction}
use Rattle.rules.specs.Message.{Message, acknowledgment, update, legal_message}
use Rattle.rules.specs.Network.{fit_queued}
use Rattle.rules.specs.Unit.{Unit, is_neighbour, is_active, fit_unit}
use Rattle.ground.proofs.Choices.{by_choice}
use Rattle.ground.specs.Each.{none, one}
use Rattle.ground.proofs.Rows.{tab_at}
use Rattle.ground.proofs.Tests.{both_of}
use Rattle.tree.proofs.Rooted.{zeros_tree}
use Rattle.rules.proofs.Applied.{noted_shaped}
use Rattle.rules.proofs.FitUnit.{FitFacts, fit_facts}
use Rattle.rules.proofs.Laid.{ShapedUnit}
use Rattle.rules.proofs.LegalDifferences.{legal_update, legal_acknowledgment}
use Rattle.rules.proofs.QueuedMessages.{Proper}
use Rattle.rules.proofs.Reacting.{reaction-by, noted_count, noted_me}
use Rattle.steps.proofs.LinkEnds.{end_set}
use Rattle.steps.proofs.FitReaction.{tree_by, fit_again, shaped_again}

module _ (v : Unit) (was : Bool) (new owed : ℕ) (f : FitFacts v) where
  -- The unit's new tree.
  abbrev T : List ℕ
  T = new_tree v was

  -- What a neighbour should have known is a tree.
  known_tree : (k : ℕ) → is_tree v.count v.me (if eqb k new then zeros v.count else v.tree) ≡ true
  known_tree k =
      by_choice (λ (t : List ℕ). is_tree v.count v.me t ≡ true) (eqb k new) (zeros v.count) v.tree
      (λ _. zeros_tree v.count v.me) (λ _. f.tree)

  -- One message is proper where it is legal and from the unit.
  proper_one : (kind : ℕ) (changes : List ℕ)
      → legal_message v.count (record { kind = kind; sender = v.me; changes = changes }) ≡ true
      → Proper v.count v.me (record { kind = kind; sender = v.me; changes = changes } ∷ [])
  unfolding fit_queued
  proper_one kind changes legal = one (both_of _ _ legal (eq-eqb v.me v.me refl)) none

  -- What unit k is sent is.
  proper_sent : (k : ℕ) → Proper v.count v.me (message_to v T new owed k)
  unfolding message_to differences_for
  proper_sent k =
      by_choice (Proper v.count v.me) (is_sent_update v T new k) _ _
      (λ _. proper_one _ _
      (by_choice
      (λ kind. legal_message v.count (record { kind = kind; sender = v.me; changes = differences_for v T new k }) ≡ true)
      (eqb k owed) (acknowledgment + update) update
      (λ _. updated (acknowledgment + update) (omega arith) (omega arith))
      (λ _. updated update (omega arith) (omega arith))))
      (λ _. by_choice (Proper v.count v.me) (eqb k owed) _ []
      (λ _. proper_one _ _ (legal_acknowledgment v.count v.me f.me))
      (λ _. none))
    where
      updated : (kind : ℕ) → update ≤ kind → kind ≤ 3
          → legal_message v.count (record { kind = kind; sender = v.me; changes = differences_for v T new k }) ≡ true
      updated = legal_update v.count v.me _ T (omega (arith, f.high)) f.me (known_tree k) (tree_by v was f)

  -- It is at most one message.
  sends_few : (k : ℕ) → length (message_to v T new owed k) ≤ 1
  unfolding message_to
  sends_few k =
      by_choice (λ (ms : List Message). length ms ≤ 1) (is_sent_update v T new k) _ _ (λ _. omega arith) (λ _.
      by_choice (λ (ms : List Message). length ms ≤ 1) (eqb k owed) _ [] (λ _. omega arith) (λ _. omega arith))

  -- A unit that is neither a neighbour nor owed an acknowledgment is sent nothing.
  sends_none : (k : ℕ) → is_neighbour v k ≡ false → k ≢ owed → message_to v T new owed k ≡ []
  unfolding message_to is_sent_update
  sends_none k apart free = rw (apart, ne_eqb k owed free)

-- What is known of the reaction of unit i of n to an event that step A answers by the tables v: the unit is fit and
-- shaped and has kept v's costs; what it sends is proper, at most one message to each unit, and none to a unit that is
-- neither a neighbour nor owed.
pub record Reacted (n i : ℕ) (v : Unit) (owed : ℕ) (r : Reaction) : Type 0 where
  pub counted : r.unit.count ≡ n
  pub named : r.unit.me ≡ i
  pub fit : fit_unit r.unit ≡ true
  pub shaped : ShapedUnit r.unit
  pub costs : r.unit.costs ≡ v.costs
  pub sent : (k : ℕ) → k < n → Proper n i (get_or r.sent k [])
  pub few : (k : ℕ) → k < n → length (get_or r.sent k []) ≤ 1
  pub silent : (k : ℕ) → k < n → is_neighbour v k ≡ false → k ≢ owed → get_or r.sent k [] ≡ []

-- It is so of steps B to F.
reacted_by : (v : Unit) (was : Bool) (new owed : ℕ) → ShapedUnit v → fit_unit v ≡ true
    → Reacted v.count v.me v owed (reaction_by v was new owed)
unfolding reaction_by
reacted_by v was new owed s fit =
    let f : FitFacts v = fit_facts v fit in
    record {
      counted = refl;
      named = refl;
      fit = fit_again v was new owed fit;
      shaped = shaped_again v was new owed s;
      costs = refl;
      sent = λ k l. rw (at_place k l) (proper_sent v was new owed f k);
      few = λ k l. rw (at_place k l) (sends_few v was new owed f k);
      silent = λ k l apart free. at_place k l ∙ sends_none v was new owed f k apart free;
    }
  where
    at_place : (k : ℕ) → k < v.count → get_or (reaction_by v was new owed).sent k [] ≡ message_to v (new_tree v was) new owed k
    at_place k l = tab_at v.count (message_to v (new_tree v was) new owed) k [] l

-- So it is of the reaction to an event.
pub reacted_to : (u : Unit) (e : Event) → ShapedUnit u → fit_unit (noted u e) ≡ true
    → Reacted u.count u.me (noted u e) (owed_of u.count e) (reaction u e)
reacted_to u e s fit =
    let v : Unit = noted u e in
    let owed : ℕ = owed_of u.count e in
    let r : Reaction = reaction_by v (is_active u) (new_of u.count e) owed in
    rw (reaction-by u e)
    (subst₂ (λ (n i : ℕ). Reacted n i v owed r) (noted_count u e) (noted_me u e)
    (reacted_by v (is_active u) (new_of u.count e) owed (noted_shaped u s e) fit))

-- The count stands for no unit.
pub not_count : (n k : ℕ) → k < n → eqb k n ≡ false
not_count n k h = ne_eqb k n (omega arith)

-- A unit whose link to b goes down sends b nothing.
pub down_silent : (u : Unit) → ShapedUnit u → (b : ℕ) → b < u.count → get_or (reaction u (link_down b)).sent b [] ≡ []
unfolding reaction reaction_by message_to is_sent_update noted
down_silent u s b h =
    let v : Unit = noted u (link_down b) in
    rw (
      tab_at u.count (message_to v (new_tree v (is_active u)) u.count u.count) b [] h,
      end_set u.costs b 0 (rw s.costs h),
      not_count u.count b h,
    )
