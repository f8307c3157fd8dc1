-- Messages that may stand in a queue: each is legal in the network and from the queue's sender.
use Prim.Native.Nat.{ℕ, ◌≤◌}
use native.Mathlib.Nat.{add-zero}
use mathlib.Core.Bool.{true}
use mathlib.Core.List.{List}
use mathlib.Core.Path.{◌≡◌}
use lib.ListN.{length, drop}
use lib.Seq.{get_or-drop}
use borrow.Author.Tests.{eqb-true}
use Rattle.ground.specs.Limits.{queue_room}
use Rattle.ground.specs.Each.{Each}
use Rattle.ground.proofs.Each.{each_at, each_of}
use Rattle.ground.proofs.Lists.{parts}
use Rattle.ground.proofs.Rows.{every_at}
use Rattle.rules.specs.Message.{Message, legal_message}
use Rattle.rules.specs.Network.{Network, queue, next_message, fit_queued, fit_queue}
use Rattle.rules.proofs.Laid.{no_message, message_at, ShapedQueue}
use Rattle.rules.proofs.LegalMessages.{legal_of}

module _ (n a : ℕ) (m : Message) (fit : fit_queued n a m ≡ true) where
  -- A message that may be queued is legal.
  pub queued_legal : legal_message n m ≡ true
  unfolding fit_queued
  queued_legal = search parts

  -- Its sender is a.
  pub queued_sender : m.sender ≡ a
  unfolding fit_queued
  queued_sender = eqb-true m.sender a (search parts)

-- Each message of a list is legal in a network of n units and from unit a.
abbrev pub Proper : (n a : ℕ) → List Message → Type 0
Proper n a ms = Each (λ m. fit_queued n a m ≡ true) ms

-- A queue of proper messages that has at most its room is shaped.
pub proper_shaped : (n a : ℕ) (ms : List Message) → length ms ≤ queue_room → Proper n a ms → ShapedQueue n ms
proper_shaped n a ms room proper =
    record {
      room = room;
      each = λ i l. legal_of n (message_at ms i) (queued_legal n a (message_at ms i) (each_at proper i no_message l));
    }

-- The message at a place of a queue, as the tests take it.
pub message-at : (ms : List Message) (i : ℕ) → next_message (drop i ms) ≡ message_at ms i
message-at ms i = rw (get_or-drop, add-zero)

-- The messages of a fit queue are proper.
pub queue_proper : (net : Network) (a b : ℕ) → fit_queue net a b ≡ true → Proper net.count a (queue net a b)
unfolding fit_queue
queue_proper net a b e =
    each_of (queue net a b) no_message (λ i l.
    rw message-at at
    (every_at (length (queue net a b)) (λ j. fit_queued net.count a (next_message (drop j (queue net a b))))
    (search parts) i l))
