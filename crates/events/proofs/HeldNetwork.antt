-- Tables that hold a network, and an event that its unit i is told of: whether its messages find room, and the tables once
-- it has happened.
use Prim.Native.Nat.{ℕ, ◌+◌, ◌≤◌, ◌<◌}
use native.Mathlib.Omega.{arith}
use mathlib.Core.Bool.{true}
use mathlib.Core.List.{List, []}
use mathlib.Core.Path.{◌≡◌, refl, sym, ap, ap₂, ◌∙◌}
use lib.ListN.{drop, length-drop}
use lib.Seq.{get_or-drop}
use Rattle.ground.specs.Limits.{unit_limit}
use Rattle.ground.specs.Rows.{at, zeros}
use Rattle.rules.specs.Event.{Reaction}
use Rattle.rules.specs.Message.{Message}
use Rattle.rules.specs.Network.{Network, queue, with_queue, reacted}
use Rattle.rules.specs.Tables.{queue_bytes, laid_units, laid_queue, laid_queues, network_from}
use Rattle.rules.specs.Tables.{fit_tables}
use Rattle.rules.proofs.Fit.{fit_network_shaped}
use Rattle.rules.proofs.Laid.{ShapedQueue, no_message}
use Rattle.rules.proofs.LaidNetwork.{ShapedNetwork}
use Rattle.rules.proofs.LaidNetwork.{network_lays_back}
use Rattle.queues.specs.Parcels.{has_room, sent_to}
use Rattle.queues.specs.Queue.{queue_of, with_bytes, popped_of}
use Rattle.queues.proofs.QueueMessages.{popped_laid}
use Rattle.fitness.specs.UnitTables.{with_table}
use Rattle.events.specs.declared.tell.Told.{Told}
use Rattle.events.proofs.LaidTables.{table_laid, shaped_after, queue_found, queue_laid}
use Rattle.events.proofs.MessageRoom.{fits, room_all}
use Rattle.events.proofs.PutMessages.{messages_sent, shaped_reacted}
use Rattle.events.proofs.ToldUnit.{Tells}

-- The tables hold a shaped network of n units.
pub record Tabled (n : ℕ) (words bytes : List ℕ) (net : Network) : Type 0 where
  pub counted : net.count ≡ n
  pub units : laid_units net ≡ words
  pub queues : laid_queues net ≡ bytes
  pub shaped : ShapedNetwork net

-- Fit tables hold the network that is read from them.
pub fit_tabled : (words bytes : List ℕ) → fit_tables words bytes ≡ true
    → Tabled (at words 0) words bytes (network_from words bytes)
unfolding network_from
fit_tabled words bytes e =
    let lays : (laid_units (network_from words bytes) ≡ words) × (laid_queues (network_from words bytes) ≡ bytes) =
    network_lays_back words bytes e in
    record { counted = refl; units = lays.0; queues = lays.1; shaped = fit_network_shaped words bytes e }

module _ {n : ℕ} {words bytes : List ℕ} {net : Network} (t : Tabled n words bytes net) where
  -- The count is within its limit.
  pub count_high : n ≤ unit_limit
  count_high = omega (arith, t.counted, t.shaped.high)

  module _ (a b : ℕ) (ha : a < n) (hb : b < n) where
    -- The bytes of the queue from a to b.
    pub queue_is : queue_of bytes a b ≡ laid_queue (queue net a b)
    queue_is = rw (← t.queues) (queue_found net t.shaped a b (rw t.counted ha) (rw t.counted hb))

    -- Its messages are legal and within its room.
    pub queue_shaped : ShapedQueue n (queue net a b)
    queue_shaped = rw t.counted at (t.shaped.each a b (rw t.counted ha) (rw t.counted hb))

    -- The tables with the bytes of another queue there.
    replaced : (ms : List Message) → ShapedQueue n ms → {left : List ℕ} → left ≡ with_bytes bytes a b (laid_queue ms)
        → Tabled n words left (with_queue net a b ms)
    unfolding with_queue laid_units
    replaced ms q e =
        let la : a < net.count = rw t.counted ha in
        let lb : b < net.count = rw t.counted hb in
        let good : ShapedQueue net.count ms = rw t.counted q in
        record {
          counted = t.counted;
          units = t.units;
          queues =
              sym (queue_laid net t.shaped a b la lb ms good)
              ∙ ap (λ (bs : List ℕ). with_bytes bs a b (laid_queue ms)) t.queues
              ∙ sym e;
          shaped = shaped_after net t.shaped a b la lb ms good;
        }

    -- The tables with the queue emptied.
    pub cleared : {left : List ℕ} → left ≡ with_bytes bytes a b (zeros queue_bytes)
        → Tabled n words left (with_queue net a b [])
    unfolding laid_queue
    cleared e = replaced [] (record { room = omega arith; each = λ i l. absurd (omega arith) }) e

    -- The tables with its first message taken off it.
    pub popped : {left : List ℕ} → left ≡ with_bytes bytes a b (popped_of (queue_of bytes a b))
        → Tabled n words left (with_queue net a b (drop 1 (queue net a b)))
    popped e =
        let bytes-then : popped_of (queue_of bytes a b) ≡ laid_queue (drop 1 (queue net a b)) =
        ap popped_of queue_is ∙ popped_laid n count_high (queue net a b) queue_shaped in
        replaced (drop 1 (queue net a b))
        (record {
          room = omega (arith, queue_shaped.room, length-drop 1 (queue net a b));
          each = λ i l.
              rw (get_or-drop 1 (queue net a b) i no_message)
              (queue_shaped.each (1 + i) (omega (arith, length-drop 1 (queue net a b))));
        })
        (e ∙ ap (with_bytes bytes a b) bytes-then)

-- Unit i of n is told of an event, in the network that the tables hold; its reaction is r.
pub record Trial (n : ℕ) (words bytes : List ℕ) (net : Network) (i : ℕ) (told : Told) (r : Reaction) : Type 0 where
  pub tabled : Tabled n words bytes net
  pub place : i < n
  pub tells : Tells n told r

module _ {n : ℕ} {words bytes : List ℕ} {net : Network} {i : ℕ} {told : Told} {r : Reaction}
    (t : Trial n words bytes net i told r) where
  -- Its place in the network.
  inside : i < net.count
  inside = rw t.tabled.counted t.place

  -- What is told, by the network's own count.
  told_there : Tells net.count told r
  told_there = rw t.tabled.counted t.tells

  -- Whether its messages find room.
  pub room_told : has_room bytes n i told.sent told.used ≡ fits net i r
  room_told =
      rw (← t.tabled.queues, ← t.tabled.counted)
      (room_all net t.tabled.shaped i inside r told_there.single told_there.parcels)

  module _ (room : fits net i r ≡ true) where
    -- The tables once it has happened.
    pub happened : {after left : List ℕ} → after ≡ with_table words i told.table
        → left ≡ sent_to bytes i told.sent told.used n → Tabled n after left (reacted net i r)
    unfolding reacted
    happened e q =
        let s : ShapedNetwork net = t.tabled.shaped in
        record {
          counted = t.tabled.counted;
          units =
              sym (table_laid net s i inside r told_there.shaped)
              ∙ ap₂ (λ (ws table : List ℕ). with_table ws i table) t.tabled.units (sym t.tells.table)
              ∙ sym e;
          queues =
              sym (messages_sent net s i inside r told_there.single room told_there.parcels)
              ∙ ap₂ (λ (bs : List ℕ) (k : ℕ). sent_to bs i told.sent told.used k)
              t.tabled.queues t.tabled.counted
              ∙ sym q;
          shaped = shaped_reacted net s i inside r told_there.single room told_there.counted told_there.shaped;
        }
