-- Rule: how tables of numbers and of bytes hold a state. Each state has one encoding: a row is filled up with zeros to the unit
-- limit, units at or above the count hold zeros, and a free place of a queue holds zeros. Tables are fit when the state
-- read from them is fit and they are exactly what that state lays out.
use Rattle.std.specs.Prelude.{ℕ, ◌+◌, ◌*◌, ◌/◌, ◌%◌, Bool, ◌&&◌, List, [], ◌∷◌, ◌++◌, map, eqb, length, take, drop}
use Rattle.ground.specs.Limits.{unit_limit, queue_room, message_room}
use Rattle.ground.specs.Rows.{at, tab, lowest, same, joined, filled}
use Rattle.rules.specs.Message.{Message, written, message_of}
use Rattle.rules.specs.Network.{Network, queue, fit_network}
use Rattle.rules.specs.Unit.{Unit, successor_set, fit_unit}

-- The index rule of a unit's table: the count, the unit's own number, then rows of unitLimit numbers.
abbrev pub row_start : (row : ℕ) → ℕ
row_start row = 2 + row * unit_limit

abbrev pub costs_at : ℕ
costs_at = row_start 0

abbrev pub awaited_at : ℕ
awaited_at = row_start 1

abbrev pub tree_at : ℕ
tree_at = row_start 2

abbrev pub feasible_at : ℕ
feasible_at = row_start 3

abbrev pub successors_at : ℕ
successors_at = row_start 4

abbrev pub copy_at : (k : ℕ) → ℕ
copy_at k = row_start (5 + k)

abbrev pub unit_words : ℕ
unit_words = copy_at unit_limit

-- The numbers of n units from a place on.
abbrev pub part : List ℕ → (from n : ℕ) → List ℕ
part words from n = take n (drop from words)

abbrev pub laid_row : List ℕ → List ℕ
laid_row row = filled unit_limit row

unfoldable pub laid_unit : Unit → List ℕ
laid_unit u =
    filled unit_words
    (u.count
    ∷ u.me
    ∷ (laid_row u.costs
    ++ laid_row u.awaited
    ++ laid_row u.tree
    ++ laid_row u.feasible
    ++ laid_row (tab u.count (successor_set u))
    ++ joined (map laid_row u.copies)))

unfoldable pub unit_from : (words : List ℕ) → Unit
unit_from words =
    record {
      count = at words 0;
      me = at words 1;
      costs = part words costs_at (at words 0);
      awaited = part words awaited_at (at words 0);
      tree = part words tree_at (at words 0);
      feasible = part words feasible_at (at words 0);
      copies = tab (at words 0) (λ k. part words (copy_at k) (at words 0));
    }

-- Refusal 2 for one unit's table.
unfoldable pub fit_unit_table : (words : List ℕ) → Bool
fit_unit_table words =
    eqb (length words) unit_words && fit_unit (unit_from words) && same words (laid_unit (unit_from words))

-- A queue is queueRoom places of messageRoom bytes, its first message in the first place. A message's first byte, the
-- edition, is not 0, so a place that begins with 0 is free.
abbrev pub queue_bytes : ℕ
queue_bytes = queue_room * message_room

unfoldable pub laid_queue : List Message → List ℕ
laid_queue messages = filled queue_bytes (joined (map (λ m. filled message_room (written m)) messages))

unfoldable pub queue_from : (bytes : List ℕ) → List Message
queue_from bytes =
    tab (lowest queue_room (λ i. eqb (at bytes (i * message_room)) 0)) (λ i. message_of (drop (i * message_room) bytes))

-- The network's tables: a table of numbers, the unit tables one after the other; and the queues' bytes, for each unit
-- that sends a row of queues.
abbrev pub network_words : ℕ
network_words = unit_limit * unit_words

abbrev pub network_bytes : ℕ
network_bytes = unit_limit * (unit_limit * queue_bytes)

abbrev pub queue_at : (a b : ℕ) → ℕ
queue_at a b = (a * unit_limit + b) * queue_bytes

unfoldable pub laid_units : Network → List ℕ
laid_units net = filled network_words (joined (map laid_unit net.units))

unfoldable pub laid_queues : Network → List ℕ
laid_queues net =
    filled network_bytes
    (joined (tab net.count (λ a.
    filled (unit_limit * queue_bytes) (joined (tab net.count (λ b. laid_queue (queue net a b)))))))

unfoldable pub network_from : (words bytes : List ℕ) → Network
network_from words bytes =
    record {
      count = at words 0;
      units = tab (at words 0) (λ i. unit_from (part words (i * unit_words) unit_words));
      queues = tab (at words 0) (λ a. tab (at words 0) (λ b. queue_from (part bytes (queue_at a b) queue_bytes)));
    }

-- Refusal 2 for a network's tables.
unfoldable pub fit_tables : (words bytes : List ℕ) → Bool
fit_tables words bytes =
    eqb (length words) network_words
    && eqb (length bytes) network_bytes
    && fit_network (network_from words bytes)
    && same words (laid_units (network_from words bytes))
    && same bytes (laid_queues (network_from words bytes))

-- "At that border a table is bytes, 4 for each number, high byte first."
unfoldable pub bytes_of : (words : List ℕ) → List ℕ
bytes_of [] = []
bytes_of (w ∷ rest) = w / 16777216 % 256 ∷ w / 65536 % 256 ∷ w / 256 % 256 ∷ w % 256 ∷ bytes_of rest

unfoldable pub words_of : (bytes : List ℕ) → List ℕ
words_of bytes =
    tab (length bytes / 4) (λ i.
    at bytes (4 * i) * 16777216 + at bytes (4 * i + 1) * 65536 + at bytes (4 * i + 2) * 256 + at bytes (4 * i + 3))
