-- Order: the fitness of a network's tables, part by part, as the code looks at them. proofs/FitOfParts.antt shows that it is
-- `fit_tables`.
use Rattle.std.specs.Prelude.{ℕ, ◌+◌, ◌*◌, ◌-◌, Bool, ◌&&◌, ◌||◌, List, eqb, leb, length, take, drop}
use Rattle.std.specs.Bool.{beq}
use Rattle.ground.specs.Limits.{unit_limit, legal_count, entry_limit, message_room}
use Rattle.ground.specs.Rows.{at, every}
use Rattle.rules.specs.Message.{readable, written_length}
use Rattle.rules.specs.Tables.{unit_words, network_words, network_bytes, queue_bytes, queue_at, part, fit_unit_table}
use Rattle.queues.specs.Queue.{held_in}
use Rattle.slices.specs.Slices.{is_nothing}
use Rattle.fitness.specs.UnitTables.{is_linked}

-- The bytes of the message at the start of a place.
abbrev pub length_in : (place : List ℕ) → ℕ
length_in place = written_length (at place 3)

-- A unit's table is fit, has the network's count, and its own number is its place.
unfoldable pub fit_table_at : (words : List ℕ) (n i : ℕ) → Bool
fit_table_at words n i =
    fit_unit_table (part words (i * unit_words) unit_words) && eqb (at words (i * unit_words)) n && eqb (at words (i * unit_words + 1)) i

-- "a queued message against the layout or not from its sender"; the place is free after the message.
unfoldable pub fit_place : (n sender : ℕ) (place : List ℕ) → Bool
fit_place n sender place =
    leb (at place 3) entry_limit
    && readable n (take (length_in place) place)
    && eqb (at place 1) sender
    && is_nothing (drop (length_in place) place)

-- A queue: messages in its first places, "a .. queued message on a link that is down", nothing after.
unfoldable pub fit_bytes : (n sender : ℕ) (up : Bool) (queue : List ℕ) → Bool
fit_bytes n sender up queue =
    (up || eqb (held_in queue) 0)
    && every (held_in queue) (λ i. fit_place n sender (part queue (i * message_room) message_room))
    && is_nothing (drop (held_in queue * message_room) queue)

-- Two units: "a link up at one end only", and the queue from a to b.
unfoldable pub fit_pair : (words bytes : List ℕ) (n a b : ℕ) → Bool
fit_pair words bytes n a b =
    beq (is_linked words a b) (is_linked words b a) && fit_bytes n a (is_linked words a b) (part bytes (queue_at a b) queue_bytes)

-- The queues of sender a: one for each unit, and nothing after.
unfoldable pub fit_sender : (words bytes : List ℕ) (n a : ℕ) → Bool
fit_sender words bytes n a =
    every n (fit_pair words bytes n a) && is_nothing (part bytes (queue_at a n) ((unit_limit - n) * queue_bytes))

unfoldable pub fit_parts : (words bytes : List ℕ) → Bool
fit_parts words bytes =
    eqb (length words) network_words
    && eqb (length bytes) network_bytes
    && legal_count (at words 0)
    && every (at words 0) (fit_table_at words (at words 0))
    && is_nothing (drop (at words 0 * unit_words) words)
    && every (at words 0) (fit_sender words bytes (at words 0))
    && is_nothing (drop (queue_at (at words 0) 0) bytes)
