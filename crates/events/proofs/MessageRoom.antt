-- Whether the messages of an event find room in their queues: as the queues' bytes tell, and what follows where they do not.
use Prim.Native.Nat.{ℕ, ◌+◌, ◌≤◌, ◌<◌}
use native.Mathlib.Omega.{arith}
use mathlib.Core.Bool.{Bool, true, false, not}
use mathlib.Core.List.{List, [], ◌++◌, append-nil}
use mathlib.Core.Logic.{◌⊎◌, ⊎_elim}
use mathlib.Core.Path.{◌≡◌, sym, ap}
use borrow.Author.Tests.{eq-eqb, ne_eqb, le-leb, lt-leb}
use lib.Dec.{eqb, leb}
use lib.ListN.{length, length-append}
use Rattle.ground.specs.Limits.{queue_room}
use Rattle.ground.specs.Rows.{every}
use Rattle.rules.specs.Event.{Reaction}
use Rattle.rules.specs.Message.{Message, written}
use Rattle.rules.specs.Network.{Network, queue, overflows}
use Rattle.rules.specs.Tables.{laid_queues}
use Rattle.queues.specs.Parcels.{is_full, has_room}
use Rattle.ground.proofs.Rows.{every_ext, every_of}
use Rattle.ground.proofs.Tests.{equal_or_not, yes_or_no, not_both}
use Rattle.rules.proofs.Laid.{ShapedQueue}
use Rattle.rules.proofs.LaidNetwork.{ShapedNetwork}
use Rattle.steps.proofs.OrderlyCalls.{queue-room}
use Rattle.queues.proofs.QueueMessages.{held_laid}
use Rattle.queues.proofs.SentParcels.{Lone, Single, Parcels, sent_by}
use Rattle.events.proofs.LaidTables.{queue_found}

-- Whether every message that unit i sends finds room in its queue.
unfoldable pub fits : Network → (i : ℕ) → Reaction → Bool
fits net i r = every net.count (λ k. leb (length (queue net i k ++ sent_by r k)) queue_room)

-- A queue that is not longer than its room has none for one message more exactly when it is full.
one_more : (x : ℕ) → x ≤ queue_room → not (eqb x queue_room) ≡ leb (x + 1) queue_room
one_more x h =
    ⊎_elim
    (λ e. rw (eq-eqb x queue_room e) (sym (lt-leb (x + 1) queue_room (omega arith))))
    (λ d. rw (ne_eqb x queue_room d) (sym (le-leb (x + 1) queue_room (omega arith))))
    (equal_or_not x queue_room)

module _ (net : Network) (s : ShapedNetwork net) (i : ℕ) (h : i < net.count) (r : Reaction)
    (single : (k : ℕ) → k < net.count → Single net.count (sent_by r k)) where
  -- The network's count.
  abbrev n : ℕ
  n = net.count

  module _ {sent : List ℕ} {used : ℕ} (p : Parcels n (sent_by r) sent used) where
    -- Whether the message to unit k finds room, as its queue's bytes tell.
    room_one : (k : ℕ) → k < n
        → not (is_full (laid_queues net) i sent used k) ≡ leb (length (queue net i k ++ sent_by r k)) queue_room
    unfolding is_full
    room_one k l =
        let q : ShapedQueue n (queue net i k) = s.each i k h l in
        ⊎_elim
        (λ e. rw (p.nothing k l e, e) (sym (le-leb (length (queue net i k ++ [])) queue_room (rw append-nil q.room))))
        (λ (m : Lone n (sent_by r k)).
        rw (
          p.parcel k l m,
          ne_eqb (1 + length (written m.0)) 0 (λ z. omega arith),
          queue_found net s i k h l,
          held_laid n s.high (queue net i k) q,
          m.1,
          length-append (queue net i k),
        )
        (one_more (length (queue net i k)) q.room))
        (single k l)

    -- So it is for all.
    pub room_all : has_room (laid_queues net) n i sent used ≡ fits net i r
    unfolding has_room fits
    room_all =
        every_ext n (λ k. not (is_full (laid_queues net) i sent used k))
        (λ k. leb (length (queue net i k ++ sent_by r k)) queue_room) room_one

-- Where some message finds no room, a network with the messages in their queues overflows.
pub overfull : (net result : Network) → result.count ≡ net.count → (i : ℕ) → i < net.count → (r : Reaction)
    → ((k : ℕ) → k < net.count → queue result i k ≡ queue net i k ++ sent_by r k)
    → fits net i r ≡ false → overflows result ≡ true
unfolding fits
overfull net result e i h r sent full =
    ⊎_elim
    (λ t. t)
    (λ none. absurd (not_both (fits net i r)
    (every_of net.count (λ k. leb (length (queue net i k ++ sent_by r k)) queue_room) (λ k l.
    le-leb _ _ (rw (sent k l) at (queue-room result none i k (rw e h) (rw e l)))))
    full))
    (yes_or_no (overflows result))

-- Messages find room alike in two networks whose queues are the same but where one has none and none is sent.
pub fits_same : (net other : Network) → ShapedNetwork net → other.count ≡ net.count → (i : ℕ) → i < net.count
    → (r : Reaction)
    → ((k : ℕ) → k < net.count → (queue other i k ≡ queue net i k) ⊎ ((queue other i k ≡ []) × (sent_by r k ≡ [])))
    → fits other i r ≡ fits net i r
unfolding fits
fits_same net other s e i h r same =
    rw e
    (every_ext net.count (λ k. leb (length (queue other i k ++ sent_by r k)) queue_room)
    (λ k. leb (length (queue net i k ++ sent_by r k)) queue_room) (λ k l.
    ⊎_elim
    (λ q. ap (λ (ms : List Message). leb (length (ms ++ sent_by r k)) queue_room) q)
    (λ q. rw (q.0, q.1) (sym (le-leb (length (queue net i k ++ [])) queue_room (rw append-nil (s.each i k h l).room))))
    (same k l)))
