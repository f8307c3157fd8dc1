-- Steps C and D for one unit k: what it is sent, that this is from the unit itself and holds an acknowledgment exactly
-- where one is owed, who is sent an update, and who is awaited after that.
use Prim.Native.Nat.{ℕ, ◌+◌, ◌<◌}
use mathlib.Core.Bool.{Bool, true, false, ◌||◌}
use mathlib.Core.List.{List, [], ◌∷◌}
use mathlib.Core.Logic.{◌⊎◌}
use mathlib.Core.Path.{◌≡◌, refl}
use lib.Dec.{eqb}
use lib.ListN.{get_or}
use borrow.Author.Tests.{not-false}
use Rattle.std.specs.Prelude.{if◌then◌else◌}
use Rattle.ground.specs.Rows.{at, same}
use Rattle.ground.specs.Each.{Each, none, one}
use Rattle.ground.proofs.Rows.{tab_at, same_eq}
use Rattle.ground.proofs.Tests.{both, either, neither}
use Rattle.rules.specs.Event.{changed, is_sent_update, differences_for, new_awaited, message_to, reaction_with}
use Rattle.rules.specs.Message.{Message, acknowledgment, update, holds_update}
use Rattle.rules.specs.Unit.{Unit, is_neighbour}
use Rattle.loopfree.specs.Conditions.{count_in, updates_in, acknowledgments_in}
use Rattle.ground.proofs.Cases.{by_test}
use Rattle.loopfree.proofs.Exchange.{Telling, tells_none, one_if}

-- Every message of a list is from unit a.
abbrev pub From : (a : ℕ) → List Message → Type 0
From a messages = Each (λ m. m.sender ≡ a) messages

-- A tree that did not change is the same.
pub unchanged : (v : Unit) (tree : List ℕ) → changed v tree ≡ false → v.tree ≡ tree
unfolding changed
unchanged v tree c = same_eq v.tree tree (not-false (same v.tree tree) c)

module _ (v : Unit) (tree : List ℕ) (new owed k : ℕ) where
  -- Whether k is sent an update.
  abbrev pub sends : Bool
  sends = is_sent_update v tree new k

  -- The update for k, the acknowledgment in it or not.
  abbrev pub update_to : Message
  update_to =
      record {
        kind = if eqb k owed then acknowledgment + update else update;
        sender = v.me;
        changes = differences_for v tree new k;
      }

  -- What k is sent where it is not sent an update.
  abbrev pub answer_to : List Message
  answer_to = if eqb k owed then record { kind = acknowledgment; sender = v.me; changes = [] } ∷ [] else []

  -- What k is sent.
  pub message_is : message_to v tree new owed k ≡ (if sends then update_to ∷ [] else answer_to)
  unfolding message_to
  message_is = refl

  -- An update is one.
  pub update_holds : holds_update update_to ≡ true
  update_holds = by_test (eqb k owed) (λ a. rw a) (λ a. rw a)

  -- An answer alone is none.
  pub answer_holds : updates_in answer_to ≡ 0
  unfolding count_in
  answer_holds = by_test (eqb k owed) (λ a. rw a) (λ a. rw a)

  -- It holds no changes.
  pub answer_tells : {copy : List ℕ} → Each (Telling copy) answer_to
  answer_tells = by_test (eqb k owed) (λ a. rw a (one (tells_none refl) none)) (λ a. rw a none)

  -- What k is sent holds an acknowledgment exactly where the event calls for one.
  pub message_acknowledges : acknowledgments_in (message_to v tree new owed k) ≡ one_if (eqb k owed)
  unfolding count_in
  message_acknowledges =
      by_test sends
      (λ s. rw (message_is, s) (by_test (eqb k owed) (λ a. rw a) (λ a. rw a)))
      (λ s. rw (message_is, s) (by_test (eqb k owed) (λ a. rw a) (λ a. rw a)))

  -- What k is sent is from the unit itself.
  pub message_from : From v.me (message_to v tree new owed k)
  message_from =
      by_test sends
      (λ s. rw (message_is, s) (one refl none))
      (λ s. rw (message_is, s) (by_test (eqb k owed) (λ a. rw a (one refl none)) (λ a. rw a none)))

  -- Who is sent an update is a neighbour, and the tree changed or the neighbour is new.
  pub sends_why : sends ≡ true → (is_neighbour v k ≡ true) × ((changed v tree ≡ true) ⊎ (eqb k new ≡ true))
  unfolding is_sent_update
  sends_why s =
      let b : (is_neighbour v k ≡ true) × ((changed v tree || eqb k new) ≡ true) =
      both (is_neighbour v k) (changed v tree || eqb k new) s in
      (b.0, either (changed v tree) (eqb k new) b.1)

  -- A neighbour that is sent none is not new, and the tree is the same.
  pub keeps_why : sends ≡ false → is_neighbour v k ≡ true → (v.tree ≡ tree) × (eqb k new ≡ false)
  unfolding is_sent_update
  keeps_why s up =
      let b : (changed v tree ≡ false) × (eqb k new ≡ false) = neither (changed v tree) (eqb k new) (rw up at s) in
      (unchanged v tree b.0, b.1)

  -- Who is sent an update is awaited, and any other as before.
  pub awaited_is : k < v.count → at (new_awaited v tree new) k ≡ (if sends then 1 else at v.awaited k)
  unfolding new_awaited
  awaited_is h = tab_at v.count (λ x. if is_sent_update v tree new x then 1 else at v.awaited x) k 0 h

-- What a unit is sent stands at its place.
pub sent_at : (v : Unit) (was : Bool) (new owed : ℕ) (tree : List ℕ) (k : ℕ) → k < v.count
    → get_or (reaction_with v was new owed tree).sent k [] ≡ message_to v tree new owed k
sent_at v was new owed tree k h = tab_at v.count (message_to v tree new owed) k [] h
