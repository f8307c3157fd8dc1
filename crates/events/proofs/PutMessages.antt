-- The messages of an event, put at the ends of their queues: the bytes are then those of the network in which the unit has
-- reacted, where each message finds room.
use Prim.Native.Nat.{ℕ, zero, suc, ◌+◌, ◌≤◌, ◌<◌}
use native.Mathlib.Omega.{arith}
use mathlib.Core.Bool.{true}
use mathlib.Core.List.{List, [], ◌∷◌, ◌++◌, append-nil}
use mathlib.Core.Logic.{◌≢◌, ⊎_elim}
use mathlib.Core.Path.{◌≡◌, refl, sym, ap, ap₂, subst⁻¹, ◌∙◌}
use borrow.Author.Tests.{ne_eqb, leb-true}
use lib.Dec.{eqb, leb}
use lib.ListN.{length, get_or, set, length-append, get_or-append}
use lib.Seq.{get_or-append-add, set-get_or}
use Rattle.std.specs.Prelude.{if◌then◌else◌}
use Rattle.ground.specs.Limits.{queue_room}
use Rattle.rules.specs.Event.{Reaction}
use Rattle.rules.specs.Message.{Message, written}
use Rattle.rules.specs.Network.{Network, unit_at, queue, with_queue, reacted}
use Rattle.rules.specs.Tables.{laid_queue, laid_queues}
use Rattle.rules.specs.Unit.{Unit}
use Rattle.queues.specs.Parcels.{parcel_at, parcels_to, message_for, sent_to}
use Rattle.queues.specs.Queue.{queue_of, with_bytes, appended_of}
use Rattle.ground.proofs.Rows.{below_suc, every_at}
use Rattle.ground.proofs.Tests.{less_or_not}
use Rattle.rules.proofs.Laid.{ShapedUnit, ShapedQueue, no_message}
use Rattle.rules.proofs.LaidNetwork.{ShapedNetwork}
use Rattle.ground.proofs.Cases.{by_equal}
use Rattle.steps.proofs.NetworkLists.{Shape, queue_here, queue_elsewhere, unit_here, unit_elsewhere, queue-from, queue_of_other}
use Rattle.steps.proofs.NetworkLists.{shape_reacted}
use Rattle.queues.proofs.QueueMessages.{appended_laid}
use Rattle.queues.proofs.SentParcels.{Lone, Single, Parcels, sent_by}
use Rattle.events.proofs.LaidTables.{shape_of, shaped_after, queue_found, queue_laid, queues_same}
use Rattle.events.proofs.MessageRoom.{fits}

-- A queue that is replaced by itself changes nothing.
same_queue : (net : Network) (a b : ℕ) → with_queue net a b (queue net a b) ≡ net
unfolding with_queue
same_queue net a b =
    λ i. record {
      count = net.count;
      units = net.units;
      queues = (ap (set net.queues a) (set-get_or (get_or net.queues a []) b []) ∙ set-get_or net.queues a []) i;
    }

-- A queue with at most one legal message more is shaped where it has the room.
shaped_append : (n : ℕ) (ms ss : List Message) → ShapedQueue n ms → Single n ss → length (ms ++ ss) ≤ queue_room
    → ShapedQueue n (ms ++ ss)
shaped_append n ms ss q single room =
    ⊎_elim
    (λ e. subst⁻¹ (ShapedQueue n) (ap (λ (xs : List Message). ms ++ xs) e ∙ append-nil ms) q)
    (λ (p : Lone n ss). record {
      room = room;
      each = λ i l.
          ⊎_elim
          (λ h. rw (get_or-append ms ss no_message i h) (q.each i h))
          (λ h.
          let last : i ≡ length ms + 0 = omega (arith, length-append ms ss, ap length p.1) in
          rw (last, get_or-append-add ms ss 0 no_message, p.1) p.2)
          (less_or_not i (length ms));
    })
    single

module _ (net : Network) (s : ShapedNetwork net) (i : ℕ) (h : i < net.count) (r : Reaction)
    (single : (k : ℕ) → k < net.count → Single net.count (sent_by r k)) where
  -- The network's count.
  abbrev n : ℕ
  n = net.count

  -- Where every message finds room.
  module _ (room : fits net i r ≡ true) where
    -- The queue to unit k with the message to it.
    abbrev longer : (k : ℕ) → List Message
    longer k = queue net i k ++ sent_by r k

    -- It is shaped.
    longer_shaped : (k : ℕ) → k < n → ShapedQueue n (longer k)
    unfolding fits
    longer_shaped k l =
        shaped_append n (queue net i k) (sent_by r k) (s.each i k h l) (single k l)
        (leb-true (length (longer k)) queue_room (every_at n (λ x. leb (length (longer x)) queue_room) room k l))

    -- The queues once the messages to the units below k are sent.
    queues_below : (k : ℕ) → List (List (List Message))
    queues_below zero = net.queues
    queues_below (suc k) = set (queues_below k) i (set (get_or (queues_below k) i []) k (longer k))

    -- The network with them.
    abbrev sent_below : (k : ℕ) → Network
    sent_below k = record { count = n; units = net.units; queues = queues_below k }

    -- One message more.
    below_more : (k : ℕ) → sent_below (suc k) ≡ with_queue (sent_below k) i k (longer k)
    unfolding with_queue queues_below
    below_more k = refl

    -- It is shaped.
    below_shaped : (k : ℕ) → k ≤ n → ShapedNetwork (sent_below k)
    unfolding queues_below
    below_shaped zero l = s
    below_shaped (suc k) l =
        rw (below_more k)
        (shaped_after (sent_below k) (below_shaped k (omega arith)) i k h l (longer k) (longer_shaped k l))

    -- In one step all but one queue stay.
    below_stays : (k : ℕ) → k < n → (x y : ℕ) → (x ≡ i → y ≡ k → ⊥)
        → queue (sent_below (suc k)) x y ≡ queue (sent_below k) x y
    below_stays k l x y d =
        ap (λ (t : Network). queue t x y) (below_more k)
        ∙ queue_elsewhere n (sent_below k) (shape_of (below_shaped k (omega arith))) i k (longer k) h l x y d

    -- The queue to a unit that is not below k is as it was.
    below_left : (k : ℕ) → k ≤ n → (y : ℕ) → k ≤ y → queue (sent_below k) i y ≡ queue net i y
    unfolding queues_below
    below_left zero l y o = refl
    below_left (suc k) l y o = below_stays k l i y (λ _ e. omega arith) ∙ below_left k (omega arith) y (omega arith)

    -- So are the queues of other units.
    below_other : (k : ℕ) → k ≤ n → (x y : ℕ) → x ≢ i → queue (sent_below k) x y ≡ queue net x y
    unfolding queues_below
    below_other zero l x y d = refl
    below_other (suc k) l x y d = below_stays k l x y (λ e _. d e) ∙ below_other k (omega arith) x y d

    -- The queue to a unit below k has its message.
    below_sent : (k : ℕ) → k ≤ n → (y : ℕ) → y < k → queue (sent_below k) i y ≡ longer y
    below_sent zero l y o = absurd (omega arith)
    below_sent (suc k) l y o =
        ⊎_elim
        (λ e. ap (queue (sent_below (suc k)) i) e
        ∙ ap (λ (t : Network). queue t i k) (below_more k)
        ∙ queue_here n (sent_below k) (shape_of (below_shaped k (omega arith))) i k (longer k) h l
        ∙ ap longer (sym e))
        (λ o. below_stays k l i y (λ _ e. omega arith) ∙ below_sent k (omega arith) y o)
        (below_suc o)

    -- One message more in the bytes.
    module _ {sent : List ℕ} {used : ℕ} (p : Parcels n (sent_by r) sent used) (k : ℕ) (l : k < n) where
      -- The network before.
      abbrev now : Network
      now = sent_below k

      -- It is shaped.
      now_shaped : ShapedNetwork now
      now_shaped = below_shaped k (omega arith)

      -- Its queue to unit k is as it was.
      now_queue : queue now i k ≡ queue net i k
      now_queue = below_left k (omega arith) k (omega arith)

      -- The bytes after.
      abbrev grown : List ℕ
      grown =
          if eqb (parcel_at sent used k (parcels_to sent used k)) 0 then laid_queues now
          else with_bytes (laid_queues now) i k (appended_of (queue_of (laid_queues now) i k) (message_for sent used k))

      -- They stay where unit k is sent nothing.
      none_more : sent_by r k ≡ [] → grown ≡ laid_queues (sent_below (suc k))
      none_more e =
          let same : longer k ≡ queue now i k =
          ap (λ (xs : List Message). queue net i k ++ xs) e ∙ append-nil (queue net i k) ∙ sym now_queue in
          rw (p.nothing k l e)
          (ap laid_queues (sym (below_more k ∙ ap (with_queue now i k) same ∙ same_queue now i k)))

      -- Else the message is laid behind the others.
      one_sent : Lone n (sent_by r k) → grown ≡ laid_queues (sent_below (suc k))
      one_sent m =
          let few : length (longer k) ≤ queue_room = (longer_shaped k l).room in
          let free : length (queue now i k) < queue_room =
          omega (arith, ap length now_queue, length-append (queue net i k) (sent_by r k), ap length m.1) in
          let message : queue now i k ++ (m.0 ∷ []) ≡ longer k =
          ap₂ (λ (xs ys : List Message). xs ++ ys) now_queue (sym m.1) in
          rw (p.parcel k l m, ne_eqb (1 + length (written m.0)) 0 (λ z. omega arith), p.message k l m)
          (ap (λ (q : List ℕ). with_bytes (laid_queues now) i k (appended_of q (written m.0)))
          (queue_found now now_shaped i k h l)
          ∙ ap (with_bytes (laid_queues now) i k)
          (appended_laid n s.high (queue now i k) (now_shaped.each i k h l) free m.0 m.2 ∙ ap laid_queue message)
          ∙ queue_laid now now_shaped i k h l (longer k) (longer_shaped k l)
          ∙ ap laid_queues (sym (below_more k)))

    -- The bytes once the messages to the units below k are sent.
    bytes_below : {sent : List ℕ} {used : ℕ} → Parcels n (sent_by r) sent used → (k : ℕ) → k ≤ n
        → sent_to (laid_queues net) i sent used k ≡ laid_queues (sent_below k)
    unfolding sent_to queues_below
    bytes_below p zero l = refl
    bytes_below p (suc k) l =
        rw (bytes_below p k (omega arith)) (⊎_elim (none_more p k l) (one_sent p k l) (single k l))

    -- The queues when all are sent are those of the network in which the unit has reacted.
    all_sent : (x y : ℕ) → x < n → y < n → queue (sent_below n) x y ≡ queue (reacted net i r) x y
    all_sent x y hx hy =
        by_equal x i
        (λ e. ap (λ (z : ℕ). queue (sent_below n) z y) e
        ∙ below_sent n (omega arith) y hy
        ∙ sym (queue-from n net (shape_of s) i r h y hy)
        ∙ ap (λ (z : ℕ). queue (reacted net i r) z y) (sym e))
        (λ d. below_other n (omega arith) x y d ∙ sym (queue_of_other net i r x y d))

    -- So are the bytes.
    pub messages_sent : {sent : List ℕ} {used : ℕ} → Parcels n (sent_by r) sent used
        → sent_to (laid_queues net) i sent used n ≡ laid_queues (reacted net i r)
    unfolding reacted
    messages_sent p =
        bytes_below p n (omega arith) ∙ queues_same (sent_below n) (reacted net i r) refl all_sent

    -- That network is shaped.
    pub shaped_reacted : r.unit.count ≡ n → ShapedUnit r.unit → ShapedNetwork (reacted net i r)
    unfolding reacted
    shaped_reacted counted shaped =
        let shape : Shape n (reacted net i r) = shape_reacted n net (shape_of s) i r h in
        record {
          low = s.low;
          high = s.high;
          units = shape.units_length;
          counts = λ x hx. by_unit (λ (u : Unit). u.count ≡ n) counted x (s.counts x hx);
          unit = λ x hx. by_unit ShapedUnit shaped x (s.unit x hx);
          queues = shape.queues_length;
          row = shape.rows_length;
          each = λ x y hx hy. rw (← all_sent x y hx hy) ((below_shaped n (omega arith)).each x y hx hy);
        }
      where
        by_unit : (P : Unit → Type 0) → P r.unit → (x : ℕ) → P (unit_at net x) → P (unit_at (reacted net i r) x)
        by_unit P here x there =
            by_equal x i
            (λ e. rw (e, unit_here n net (shape_of s) i r h) here)
            (λ d. rw (unit_elsewhere net i r x d) there)
