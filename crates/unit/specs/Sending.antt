-- Order: the messages of an event as bytes in the lent buffer, one by one. proofs/AllMessages.antt and
-- proofs/Composed.antt show that they are `outgoing`.
use Rattle.std.specs.Prelude.{ℕ, ◌+◌, ◌≤◌, ◌<◌, Bool, true, List, [], ◌∷◌, Option, None, Some, ◌≢◌, ◌≡◌, eqb, length, take}
use Rattle.std.specs.Prelude.{if◌then◌else◌}
use Rattle.ground.specs.Limits.{unit_limit, message_room, firmware_room, change_base}
use Rattle.ground.specs.Rows.{at, tab, filled, joined}
use Rattle.tree.specs.Tree.{is_tree}
use Rattle.rules.specs.Event.{changed}
use Rattle.rules.specs.Hub.{outgoing_to}
use Rattle.rules.specs.Message.{written, legal_message}
use Rattle.rules.specs.Unit.{Unit}
use Rattle.message.specs.Kind.{kind_number}
use Rattle.message.specs.declared.kind.Kind.{Kind}
use Rattle.state.specs.Holding.{unit_of}
use Rattle.unit.specs.Reacted.{FitHeld}
use Rattle.rules.specs.Event.{message_to}
use Rattle.state.specs.declared.held.Held.{Held}
use Rattle.unit.specs.declared.send.Changes.{Changes}

-- Entries that leave room for the unit's byte.
abbrev pub Small : (n : ℕ) (row : List ℕ) → Type 0
Small n row = (j : ℕ) → j < n → at row j < change_base

-- Changes in an array, with their number.
abbrev pub listed : (changes : List ℕ) → Changes
listed changes = record { number = length changes; list = filled unit_limit changes }

-- The kind of the message to a neighbour that is sent an update or owed an acknowledgment; 0 for none.
abbrev pub kind_for : (sent owed : Bool) → ℕ
kind_for sent owed = if sent then (if owed then 3 else 2) else if owed then 1 else 0

-- The number of a kind that may be none.
abbrev pub number_for : Option Kind → ℕ
number_for None = 0
number_for (Some kind) = kind_number kind

-- The bytes for neighbour k: none, or its number and the message.
abbrev pub bytes_to : (k kind sender : ℕ) (changes : List ℕ) → List ℕ
bytes_to k kind sender changes =
    if eqb kind 0 then [] else k ∷ written (record { kind = kind; sender = sender; changes = changes })

-- What is needed to lay one message, if there is one: room for the longest, and fields that the writer does not refuse.
pub record Sendable (n me k kind : ℕ) (changes : List ℕ) (room used : ℕ) : Type 0 where
  pub low : 2 ≤ n
  pub high : n ≤ unit_limit
  pub sender : me < n
  pub receiver : k < n
  pub fits : kind ≢ 0 → used + (1 + message_room) ≤ room
  pub legal : kind ≢ 0 → legal_message n (record { kind = kind; sender = me; changes = changes }) ≡ true

-- What is needed to lay all messages: fit tables, a new tree that is a tree, and nobody owed but another unit.
pub record SendableAll (h : Held) (tree : List ℕ) (isChanged : Bool) (owed room : ℕ) : Type 0 where
  pub fit : FitHeld h
  pub rooted : is_tree h.count h.me (take h.count tree) ≡ true
  pub tells : isChanged ≡ changed (unit_of h) (take h.count tree)
  pub other : owed ≢ h.me
  pub fits : firmware_room ≤ room

-- The bytes of all messages.
abbrev pub sent_bytes : (v : Unit) (tree : List ℕ) (new owed : ℕ) → List ℕ
sent_bytes v tree new owed = joined (tab v.count (λ k. outgoing_to k (message_to v tree new owed k)))
