-- Rule: the numbers that bound the product, each named here and nowhere else.
use Rattle.std.specs.Prelude.{ℕ, ◌+◌, ◌-◌, ◌*◌, Bool, ◌&&◌, leb}

-- "Units: 2 to 16, numbered from 0."
abbrev pub unit_limit : ℕ
unit_limit = 16

abbrev pub legal_count : ℕ → Bool
legal_count n = leb 2 n && leb n unit_limit

-- "Link cost: 1 to 65,535"
abbrev pub highest_cost : ℕ
highest_cost = 65535

abbrev pub legal_cost : ℕ → Bool
legal_cost c = leb 1 c && leb c highest_cost

-- A head and a cost in one number: the head counts entryBase, one more than the highest cost. A unit and such an entry in
-- one number: the unit counts changeBase, a byte for the head and two for the cost.
abbrev pub entry_base : ℕ
entry_base = 65536

abbrev pub change_base : ℕ
change_base = 16777216

-- "A distance is unreachable, above all numbers": the largest number that a table's word holds.
abbrev pub far : ℕ
far = 4294967295

-- "or at most 983,025 (15 links)"
abbrev pub longest : ℕ
longest = (unit_limit - 1) * highest_cost

-- "A queue for each direction of each link: first in, first out, at most 4 messages."
abbrev pub queue_room : ℕ
queue_room = 4

-- "number of entries, 0 to the count less one"
abbrev pub entry_limit : ℕ
entry_limit = unit_limit - 1

-- "Length is exactly 4 plus 4 for each entry."
abbrev pub message_room : ℕ
message_room = 4 + 4 * entry_limit

-- "The room asked for is 975 bytes": a message for each neighbour, "each after one byte with the neighbour's number".
abbrev pub firmware_room : ℕ
firmware_room = (unit_limit - 1) * (1 + message_room)

-- "holds up to 64 frames"
abbrev pub frame_limit : ℕ
frame_limit = 64

-- "each with a size of 1 to 65,535 bytes"
abbrev pub highest_size : ℕ
highest_size = 65535

abbrev pub legal_size : ℕ → Bool
legal_size size = leb 1 size && leb size highest_size

-- "at its 64th hop it is delivered if that hop reaches the destination, else dropped"
abbrev pub hop_limit : ℕ
hop_limit = 64

-- "15 entered bytes would pass 10^15"
abbrev pub entered_limit : ℕ
entered_limit = 1000000000000000
