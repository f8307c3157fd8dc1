-- A call that is an event at each of two units, the second told before the first has happened: what it answers and leaves.
use Prim.Native.Nat.{ℕ, ◌<◌}
use mathlib.Core.Bool.{Bool, true, false, ◌&&◌}
use mathlib.Core.List.{List, ◌++◌}
use mathlib.Core.Logic.{◌≢◌, inl}
use mathlib.Core.Path.{◌≡◌, refl, sym, ap, ap₂, ◌∙◌}
use Rattle.ground.specs.Refusal.{accepted, ◌gives◌, ◌otherwise◌, answer_base}
use Rattle.ground.specs.Rows.{at}
use Rattle.rules.specs.Event.{Reaction}
use Rattle.rules.specs.Message.{Message}
use Rattle.rules.specs.Network.{Network, Call, queue, reacted, outcome, overflows}
use Rattle.rules.specs.NetworkTable.{network_refusal}
use Rattle.rules.specs.Tables.{network_from}
use Rattle.fitness.specs.UnitTables.{with_table}
use Rattle.events.specs.Happening.{is_sent, emptied_if, both_find, both_answer, both_words, both_bytes}
use Rattle.events.specs.declared.tell.Told.{Told}
use Rattle.ground.proofs.Tests.{both, if_true, if_false}
use Rattle.ground.proofs.Cases.{by_test}
use Rattle.steps.proofs.NetworkLists.{Shape, queue-from, queue_of_other, shape_reacted}
use Rattle.queues.proofs.SentParcels.{sent_by}
use Rattle.events.proofs.HeldNetwork.{Tabled, Trial, room_told, happened}
use Rattle.events.proofs.MessageRoom.{fits, overfull, fits_same}
use Rattle.network.proofs.calls.CallAnswers.{Answered, answered_as, refused_full, done}

-- Units a and b are told of an event each, in the network that the tables hold. The events happen in the network `base`,
-- where their messages find room alike, and lead to the call's outcome. Nothing refuses the call but 13.
pub record Pair (words bytes : List ℕ) (call : Call) (base : Network) (a b : ℕ) (one two : Told) : Type 0 where
  pub early : ℕ
  pub parts : network_refusal words bytes call
      ≡ (early otherwise overflows (outcome (network_from words bytes) call) gives 13)
  pub none : early ≡ accepted
  pub one_does : Reaction
  pub two_does : Reaction
  pub first : Trial (at words 0) words bytes (network_from words bytes) a one one_does
  pub second : Trial (at words 0) words bytes (network_from words bytes) b two two_does
  pub apart : a ≢ b
  pub shape : Shape (at words 0) base
  pub room_a : fits base a one_does ≡ fits (network_from words bytes) a one_does
  pub room_b : fits base b two_does ≡ fits (network_from words bytes) b two_does
  pub leads : outcome (network_from words bytes) call ≡ reacted (reacted base a one_does) b two_does

module _ {words bytes : List ℕ} {call : Call} {base : Network} {a b : ℕ} {one two : Told}
    (k : Pair words bytes call base a b one two) where
  -- The count.
  abbrev n : ℕ
  n = at words 0

  -- The reaction of a.
  abbrev ra : Reaction
  ra = k.one_does

  -- The reaction of b.
  abbrev rb : Reaction
  rb = k.two_does

  -- The network between the events.
  abbrev between : Network
  between = reacted base a ra

  -- The network after both.
  abbrev after : Network
  after = reacted between b rb

  -- In between the lists keep their places.
  shape_between : Shape n between
  shape_between = shape_reacted n base k.shape a ra k.first.place

  -- The queues of a after both.
  queues_a : (y : ℕ) → y < n → queue after a y ≡ queue base a y ++ sent_by ra y
  queues_a y h =
      queue_of_other between b rb a y k.apart
      ∙ queue-from n base k.shape a ra k.first.place y h

  -- The queues of b between the events.
  between_b : (y : ℕ) → queue between b y ≡ queue base b y
  between_b y = queue_of_other base a ra b y (λ e. k.apart (sym e))

  -- The queues of b after both.
  queues_b : (y : ℕ) → y < n → queue after b y ≡ queue base b y ++ sent_by rb y
  queues_b y h =
      queue-from n between shape_between b rb k.second.place y h
      ∙ ap (λ (ms : List Message). ms ++ sent_by rb y) (between_b y)

  -- 13, where a queue overflows after both.
  full : overflows after ≡ true → Answered words bytes call 13 words bytes
  full e = refused_full words bytes call k.early k.parts k.none (ap overflows k.leads ∙ e)

  -- So it is where a message of a finds no room.
  full_a : fits base a ra ≡ false → Answered words bytes call 13 words bytes
  unfolding reacted
  full_a e =
      full (overfull base after refl a (rw k.shape.counted k.first.place) ra
      (λ y h. queues_a y (rw k.shape.counted at h)) e)

  -- So it is where a message of b finds none.
  full_b : fits base b rb ≡ false → Answered words bytes call 13 words bytes
  unfolding reacted
  full_b e =
      full (overfull base after refl b (rw k.shape.counted k.second.place) rb
      (λ y h. queues_b y (rw k.shape.counted at h)) e)

  -- What the events answer and leave, once the tables would hold the network in which they happen.
  module _ (clears : Bool) (t : Tabled n words (emptied_if clears bytes a b) base) where
    -- The queues in which they happen.
    abbrev held : List ℕ
    held = emptied_if clears bytes a b

    -- The messages find room in the tables where they do there.
    there : both_find words bytes a one b two ≡ (fits base a ra && fits base b rb)
    there = ap₂ ◌&&◌ (room_told k.first ∙ sym k.room_a) (room_told k.second ∙ sym k.room_b)

    -- 13, where some message does not.
    full_two : both_find words bytes a one b two ≡ false → Answered words bytes call 13 words bytes
    full_two e =
        by_test (fits base a ra)
        (λ t. full_b (sym (ap (λ (x : Bool). x && fits base b rb) t) ∙ sym there ∙ e))
        full_a

    -- Else the events happen.
    module _ (room : both_find words bytes a one b two ≡ true) where
      -- Both find room.
      both_fit : (fits base a ra ≡ true) × (fits base b rb ≡ true)
      both_fit = both (fits base a ra) (fits base b rb) (sym there ∙ room)

      -- The tables between the events.
      middle : Tabled n (with_table words a one.table) (is_sent held n a one) between
      middle =
          happened (record { tabled = t; place = k.first.place; tells = k.first.tells }) both_fit.0 refl refl

      -- The messages of the second find room there.
      fits_between : fits between b rb ≡ true
      unfolding reacted
      fits_between =
          fits_same base between t.shaped refl b (rw k.shape.counted k.second.place) rb
          (λ y h. inl (between_b y))
          ∙ both_fit.1

      -- The call is done.
      happy : Answered words bytes call answer_base (with_table (with_table words a one.table) b two.table)
          (is_sent (is_sent held n a one) n b two)
      happy =
          done words bytes call k.early k.parts k.none {n = n}
          (rw k.leads
          (happened (record { tabled = middle; place = k.second.place; tells = k.second.tells }) fits_between refl refl))

    -- So the call answers and leaves what the events do.
    pub both-answer : {answer : ℕ} {after left : List ℕ}
        → (answer ≡ both_answer words bytes a one b two)
        × ((after ≡ both_words words bytes a one b two) × (left ≡ both_bytes words bytes a one b two clears))
        → Answered words bytes call answer after left
    unfolding both_answer both_words both_bytes
    both-answer e =
        by_test (both_find words bytes a one b two)
        (λ t. answered_as words bytes call
        (e.0 ∙ if_true _ _ _ t) (e.1.0 ∙ if_true _ _ _ t) (e.1.1 ∙ if_true _ _ _ t) (happy t))
        (λ t. answered_as words bytes call
        (e.0 ∙ if_false _ _ _ t) (e.1.0 ∙ if_false _ _ _ t) (e.1.1 ∙ if_false _ _ _ t) (full_two t))
