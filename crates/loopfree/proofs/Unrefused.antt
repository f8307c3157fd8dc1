-- On a network of which the invariant holds no delivery meets refusals 10 to 12: the first message of each queue holds an
-- acknowledgment only where one is awaited, changes that each change something, and leaves a copy that is a tree.
use Prim.Native.Nat.{ℕ, ◌<◌}
use native.Mathlib.Omega.{arith}
use mathlib.Core.Bool.{true, false, not, ◌&&◌}
use mathlib.Core.List.{List, ◌∷◌}
use mathlib.Core.Logic.{◌≢◌}
use mathlib.Core.Path.{◌≡◌, sym, ◌∙◌}
use borrow.Author.Tests.{ne_eqb}
use Rattle.ground.specs.Refusal.{accepted}
use Rattle.ground.specs.Rows.{at}
use Rattle.ground.proofs.Each.{each_first}
use Rattle.tree.specs.Recompute.{copy_of}
use Rattle.tree.specs.Tree.{is_tree}
use Rattle.rules.specs.Event.{message_refusal, changes_nothing}
use Rattle.rules.specs.Message.{Message, holds_acknowledgment, holds_update, applied}
use Rattle.rules.specs.Network.{Network, unit_at, queue, is_up}
use Rattle.loopfree.specs.Conditions.{count_in}
use Rattle.rules.specs.Unit.{awaits}
use Rattle.ground.proofs.Cases.{by_test}
use Rattle.loopfree.proofs.Exchange.{one_of, only_update}
use Rattle.loopfree.proofs.Invariant.{Direction, Holds, Any}
use Rattle.loopfree.proofs.Sound.{Home}

module _ (n : ℕ) (net : Network) (holds : Holds n Any net) (a b : ℕ) (ha : a < n) (hb : b < n) (d : a ≢ b) (m : Message)
    (rest : List Message) (first : queue net a b ≡ m ∷ rest) where
  -- The sender's tree, and the copy of it that b has.
  abbrev tree : List ℕ
  tree = (unit_at net a).tree

  abbrev copy : List ℕ
  copy = copy_of (unit_at net b).copies a

  -- The direction from a to b, and that from b to a.
  line : Direction n a b (unit_at net a) (unit_at net b) (m ∷ rest) (queue net b a)
  line = rw first at (holds.lines a b ha hb d)

  back : Direction n b a (unit_at net b) (unit_at net a) (queue net b a) (m ∷ rest)
  back = rw first at (holds.lines b a hb ha (λ q. d (sym q)))

  -- The tree is one.
  rooted : is_tree n a tree ≡ true
  rooted = rw ((holds.home a ha).counted, (holds.home a ha).named) at (holds.home a ha).sound.rooted

  -- So is the copy.
  copied : is_tree n a copy ≡ true
  copied =
      let h : Home n b (unit_at net b) = holds.home b hb in
      rw h.counted at (h.sound.links.copied a (rw h.counted ha))

  -- The message is from a.
  sender : m.sender ≡ a
  sender = each_first (rw first at (holds.signed a b ha hb))

  -- 10: its acknowledgment is awaited.
  expected : holds_acknowledgment m && not (awaits (unit_at net b) a) ≡ false
  unfolding count_in
  expected =
      by_test (holds_acknowledgment m)
      (λ h.
      rw (h, ne_eqb (at (unit_at net b).awaited a) 0 (omega (arith, back.balance, one_of (holds_acknowledgment m) h))))
      (λ h. rw h)

  -- 11: each entry changes something in the copy.
  changing : changes_nothing copy m.changes ≡ false
  changing = (each_first line.told).changing

  -- An update gives the sender's tree.
  gives : holds_update m ≡ true → applied copy m.changes ≡ tree
  unfolding count_in
  gives h =
      by_test (is_up net a b)
      (λ u. sym (each_first (only_update copy (m ∷ rest) (omega (arith, line.balance, line.single))) h) ∙ line.arrives u)
      (λ u. absurd (omega (arith, line.balance, (line.off u).0, one_of (holds_update m) h)))

  -- 12: the changed copy is a tree rooted at the sender.
  planted : is_tree n a (applied copy m.changes) ≡ true
  unfolding applied
  planted =
      by_test (holds_update m)
      (λ h. rw (gives h) rooted)
      (λ h. rw ((each_first line.told).bare h) copied)

  -- So the message is not refused.
  pub message_accepted : message_refusal (unit_at net b) m ≡ accepted
  unfolding message_refusal
  message_accepted = rw (sender, (holds.home b hb).counted, expected, changing, planted)
