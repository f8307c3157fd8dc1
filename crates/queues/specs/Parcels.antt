-- Order: the messages of an event in the buffer where `unit` laid them, one parcel for each neighbour that is sent one: the
-- neighbour's number, then the message. They are taken from the buffer neighbour by neighbour, rising. proofs/SentParcels.antt
-- shows that they are the messages of `outgoing`.
use Rattle.std.specs.Prelude.{ℕ, zero, suc, ◌+◌, ◌-◌, Bool, not, ◌&&◌, List, eqb, leb, length}
use Rattle.std.specs.Prelude.{if◌then◌else◌}
use Rattle.ground.specs.Limits.{queue_room, message_room}
use Rattle.ground.specs.Rows.{at, every}
use Rattle.rules.specs.Message.{written_length}
use Rattle.rules.specs.Tables.{part}
use Rattle.queues.specs.Queue.{queue_of, with_bytes, held_in, appended_of}

-- The bytes that a parcel at a place of a buffer has, by the number of entries of its message.
abbrev pub parcel_length : (sent : List ℕ) (place : ℕ) → ℕ
parcel_length sent place = 1 + written_length (at sent (place + 4))

-- Whether the parcel at a place is whole: within the first `used` bytes of the buffer, and not longer than its number and
-- the longest message.
unfoldable pub is_whole : (sent : List ℕ) (used place : ℕ) → Bool
is_whole sent used place =
    leb used (length sent)
    && (leb (place + parcel_length sent place) used && leb (parcel_length sent place) (1 + message_room))

-- The bytes of the parcel to unit k at a place of a buffer of which the first `used` bytes are taken: 0 where the next
-- parcel is not for k or not whole.
unfoldable pub parcel_at : (sent : List ℕ) (used k place : ℕ) → ℕ
parcel_at sent used k place =
    if is_whole sent used place && eqb (at sent place) k then parcel_length sent place else 0

-- Where the parcels to the units below k end.
unfoldable pub parcels_to : (sent : List ℕ) (used k : ℕ) → ℕ
parcels_to sent used zero = 0
parcels_to sent used (suc k) =
    let before = parcels_to sent used k in
    before + parcel_at sent used k before

-- The message to unit k: nothing where there is no parcel.
unfoldable pub message_for : (sent : List ℕ) (used k : ℕ) → List ℕ
message_for sent used k =
    let before = parcels_to sent used k in
    part sent (before + 1) (parcel_at sent used k before - 1)

-- 13: whether the message to unit k finds its queue full.
unfoldable pub is_full : (bytes : List ℕ) (i : ℕ) (sent : List ℕ) (used k : ℕ) → Bool
is_full bytes i sent used k =
    not (eqb (parcel_at sent used k (parcels_to sent used k)) 0) && eqb (held_in (queue_of bytes i k)) queue_room

unfoldable pub has_room : (bytes : List ℕ) (n i : ℕ) (sent : List ℕ) (used : ℕ) → Bool
has_room bytes n i sent used = every n (λ k. not (is_full bytes i sent used k))

-- The queues of unit i with the messages to the units below k at their ends.
unfoldable pub sent_to : (bytes : List ℕ) (i : ℕ) (sent : List ℕ) (used k : ℕ) → List ℕ
sent_to bytes i sent used zero = bytes
sent_to bytes i sent used (suc k) =
    let before = sent_to bytes i sent used k in
    if eqb (parcel_at sent used k (parcels_to sent used k)) 0 then before
    else with_bytes before i k (appended_of (queue_of before i k) (message_for sent used k))
