-- A call that is an event at one unit: what it answers and leaves.
use Prim.Native.Nat.{ℕ}
use mathlib.Core.Bool.{Bool, true, false}
use mathlib.Core.List.{List}
use mathlib.Core.Path.{◌≡◌, refl, sym, ap, ◌∙◌}
use Rattle.ground.specs.Refusal.{accepted, ◌gives◌, ◌otherwise◌, answer_base}
use Rattle.ground.specs.Rows.{at}
use Rattle.rules.specs.Event.{Reaction}
use Rattle.rules.specs.Network.{Network, Call, reacted, outcome, overflows}
use Rattle.rules.specs.NetworkTable.{network_refusal}
use Rattle.rules.specs.Tables.{network_from}
use Rattle.fitness.specs.UnitTables.{with_table}
use Rattle.events.specs.Happening.{finds_room, is_sent, popped_if, one_answer, one_words, one_bytes}
use Rattle.events.specs.declared.tell.Told.{Told}
use Rattle.ground.proofs.Tests.{if_true, if_false}
use Rattle.ground.proofs.Cases.{by_test}
use Rattle.steps.proofs.NetworkLists.{Shape, queue-from}
use Rattle.events.proofs.HeldNetwork.{Tabled, Trial, room_told, happened}
use Rattle.events.proofs.MessageRoom.{fits, overfull}
use Rattle.network.proofs.calls.CallAnswers.{Answered, answered_as, refused_full, done}

-- Unit i is told of an event, in the network that the tables hold. The event happens in the network `base`, where its
-- messages find room alike, and leads to the call's outcome. Nothing refuses the call but 13.
pub record One (words bytes : List ℕ) (call : Call) (base : Network) (i : ℕ) (told : Told) : Type 0 where
  pub early : ℕ
  pub parts : network_refusal words bytes call
      ≡ (early otherwise overflows (outcome (network_from words bytes) call) gives 13)
  pub none : early ≡ accepted
  pub does : Reaction
  pub tries : Trial (at words 0) words bytes (network_from words bytes) i told does
  pub shape : Shape (at words 0) base
  pub room : fits base i does ≡ fits (network_from words bytes) i does
  pub leads : outcome (network_from words bytes) call ≡ reacted base i does

-- What the event answers and leaves, once the tables would hold the network in which it happens.
module _ {words bytes : List ℕ} {call : Call} {base : Network} {i : ℕ} {told : Told}
    (k : One words bytes call base i told) (other : ℕ) (pops : Bool)
    (t : Tabled (at words 0) words (popped_if pops bytes other i) base) where
  -- The count.
  abbrev n : ℕ
  n = at words 0

  -- The messages find room in the tables where they do in the network in which the event happens.
  there : finds_room bytes n i told ≡ fits base i k.does
  there = room_told k.tries ∙ sym k.room

  -- 13, where they do not.
  full : finds_room bytes n i told ≡ false → Answered words bytes call 13 words bytes
  unfolding reacted
  full e =
      refused_full words bytes call k.early k.parts k.none
      (ap overflows k.leads
      ∙ overfull base (reacted base i k.does) refl i (rw k.shape.counted k.tries.place) k.does
      (λ y h. queue-from n base k.shape i k.does k.tries.place y (rw k.shape.counted at h))
      (sym there ∙ e))

  -- Else the event happens, and the call is done.
  happy : finds_room bytes n i told ≡ true
      → Answered words bytes call answer_base (with_table words i told.table) (is_sent (popped_if pops bytes other i) n i told)
  happy e =
      done words bytes call k.early k.parts k.none {n = n}
      (rw k.leads
      (happened (record { tabled = t; place = k.tries.place; tells = k.tries.tells }) (sym there ∙ e) refl refl))

  -- So the call answers and leaves what the event does.
  pub one_answers : {answer : ℕ} {after left : List ℕ}
      → (answer ≡ one_answer words bytes i told)
      × ((after ≡ one_words words bytes i told) × (left ≡ one_bytes words bytes other i told pops))
      → Answered words bytes call answer after left
  unfolding one_answer one_words one_bytes
  one_answers e =
      by_test (finds_room bytes n i told)
      (λ t. answered_as words bytes call
      (e.0 ∙ if_true _ _ _ t) (e.1.0 ∙ if_true _ _ _ t) (e.1.1 ∙ if_true _ _ _ t) (happy t))
      (λ t. answered_as words bytes call
      (e.0 ∙ if_false _ _ _ t) (e.1.0 ∙ if_false _ _ _ t) (e.1.1 ∙ if_false _ _ _ t) (full t))
