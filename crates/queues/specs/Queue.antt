-- Order: the bytes of one queue among those of all: taken out, put back, the messages counted, the first taken off, one put at
-- the end. proofs/QueueThere.antt finds them among all, and proofs/QueueMessages.antt shows that they are those of
-- `laid_queue`.
use Rattle.std.specs.Prelude.{ℕ, ◌*◌, Bool, ◌&&◌, List, eqb, ltb, length, drop}
use Rattle.std.proofs.Math.Seq.{paste}
use Rattle.std.specs.Prelude.{if◌then◌else◌}
use Rattle.ground.specs.Limits.{unit_limit, queue_room, message_room}
use Rattle.ground.specs.Rows.{at, zeros, filled, lowest}
use Rattle.rules.specs.Tables.{part, queue_bytes, network_bytes, queue_at}
use Rattle.slices.specs.Slices.{laid_over}

-- Whether bytes are those of all queues, and one of these leads from a to b.
unfoldable pub has_queue : (bytes : List ℕ) (a b : ℕ) → Bool
has_queue bytes a b = eqb (length bytes) network_bytes && (ltb a unit_limit && ltb b unit_limit)

-- The bytes of the queue from a to b, zeros where there is none; and the queues with other bytes for it, as they were where
-- there is none.
unfoldable pub queue_of : (bytes : List ℕ) (a b : ℕ) → List ℕ
queue_of bytes a b = if has_queue bytes a b then part bytes (queue_at a b) queue_bytes else zeros queue_bytes

unfoldable pub with_bytes : (bytes : List ℕ) (a b : ℕ) (queue : List ℕ) → List ℕ
with_bytes bytes a b queue = if has_queue bytes a b then paste bytes (queue_at a b) queue queue_bytes else bytes

-- The messages that a queue's bytes hold: the first place that begins with 0 is free.
unfoldable pub held_in : (queue : List ℕ) → ℕ
held_in queue = lowest queue_room (λ i. eqb (at queue (i * message_room)) 0)

-- The queue's bytes without its first message: the others move up one place, and the last place is free.
unfoldable pub popped_of : (queue : List ℕ) → List ℕ
popped_of queue = filled queue_bytes (drop message_room queue)

-- The queue's bytes with a message's bytes in the first free place, as they were where none is free.
unfoldable pub appended_of : (queue message : List ℕ) → List ℕ
appended_of queue message = laid_over queue (held_in queue * message_room) message
