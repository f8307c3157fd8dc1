-- Rule: one unit as hub firmware uses it: calls with numbers and bytes, and the messages of an event in a lent buffer.
use Rattle.std.specs.Prelude.{ℕ, ◌+◌, Bool, not, ◌&&◌, List, [], ◌∷◌, ◌++◌, eqb, ltb, length, get_or, drop}
use Rattle.std.specs.Prelude.{if◌then◌else◌}
use Rattle.ground.specs.Limits.{legal_count, legal_cost, firmware_room, far}
use Rattle.ground.specs.Refusal.{accepted, ◌gives◌, ◌otherwise◌, answer_base}
use Rattle.ground.specs.Rows.{at, tab, joined}
use Rattle.rules.specs.Event.{Event, received, link_up, new_cost, link_down, Reaction, reaction, message_refusal}
use Rattle.rules.specs.Message.{Message, written, message_of, readable}
use Rattle.rules.specs.Network.{bad_ends}
use Rattle.rules.specs.Tables.{unit_words, laid_unit, unit_from, fit_unit_table}
use Rattle.rules.specs.Unit.{Unit, fresh_unit, is_neighbour, is_active, own_distance, successor_set}

pub data HubCall : Type 0 where
  hub_up : (to cost : ℕ) → HubCall
  hub_cost : (to cost : ℕ) → HubCall
  hub_down : (to : ℕ) → HubCall
  hub_message : (from : ℕ) (bytes : List ℕ) → HubCall

abbrev pub event_of : HubCall → Event
event_of (hub_up to cost) = link_up to cost
event_of (hub_cost to cost) = new_cost to cost
event_of (hub_down to) = link_down to
event_of (hub_message from bytes) = received (message_of bytes)

-- 7: "the firmware's (below 975)"
abbrev pub too_short : (room : ℕ) → Bool
too_short room = ltb room firmware_room

-- The refusals of a unit whose tables are fit, over a buffer of the given room. "The firmware's entry for outside bytes
-- meets 9 to 12"; 9: "message against the layout, or not from the neighbour it came by".
unfoldable pub hub_refusal : Unit → (room : ℕ) → HubCall → ℕ
hub_refusal u room (hub_up to cost) =
    bad_ends u.count u.me to gives 3
    otherwise not (legal_cost cost) gives 4
    otherwise is_neighbour u to gives 5
    otherwise too_short room gives 7
hub_refusal u room (hub_cost to cost) =
    bad_ends u.count u.me to gives 3
    otherwise not (legal_cost cost) gives 4
    otherwise not (is_neighbour u to) gives 6
    otherwise too_short room gives 7
hub_refusal u room (hub_down to) =
    bad_ends u.count u.me to gives 3
    otherwise not (is_neighbour u to) gives 6
    otherwise too_short room gives 7
hub_refusal u room (hub_message from bytes) =
    bad_ends u.count u.me from gives 3
    otherwise not (is_neighbour u from) gives 6
    otherwise too_short room gives 7
    otherwise not (readable u.count bytes && eqb (message_of bytes).sender from) gives 9
    otherwise message_refusal u (message_of bytes)

-- "The messages of an event, at most one for each neighbour, go into a lent buffer from its start, neighbours rising,
-- each after one byte with the neighbour's number; the bytes after them stay."
unfoldable pub outgoing_to : (k : ℕ) → List Message → List ℕ
outgoing_to k [] = []
outgoing_to k (m ∷ rest) = (k ∷ written m) ++ outgoing_to k rest

unfoldable pub outgoing : Reaction → List ℕ
outgoing r = joined (tab r.unit.count (λ k. outgoing_to k (get_or r.sent k [])))

abbrev pub outgoing_laid : Reaction → (buffer : List ℕ) → List ℕ
outgoing_laid r buffer = outgoing r ++ drop (length (outgoing r)) buffer

-- "An accepted event answers 100 plus the bytes used."
abbrev pub hub_answer : (refusal : ℕ) (value : ℕ) → ℕ
hub_answer refusal value = if eqb refusal accepted then answer_base + value else refusal

-- The fresh unit refuses 1 (count), 2 (length) and 3 (its own number); a question 2 and 3.
abbrev pub hub_fresh_refusal : (n me : ℕ) (rightLength : Bool) → ℕ
hub_fresh_refusal n me rightLength =
    not (legal_count n) gives 1
    otherwise not rightLength gives 2
    otherwise not (ltb me n) gives 3

abbrev pub hub_question_refusal : Unit → (to : ℕ) → ℕ
hub_question_refusal u to = not (ltb to u.count) gives 3

-- The same over a unit's table of numbers: 2 where it is not fit, then the others; and what the call leaves.
unfoldable pub table_refusal : (words : List ℕ) (room : ℕ) → HubCall → ℕ
table_refusal words room call =
    not (fit_unit_table words) gives 2 otherwise hub_refusal (unit_from words) room call

abbrev pub table_reaction : (words : List ℕ) → HubCall → Reaction
table_reaction words call = reaction (unit_from words) (event_of call)

unfoldable pub table_answer : (words : List ℕ) (room : ℕ) → HubCall → ℕ
table_answer words room call = hub_answer (table_refusal words room call) (length (outgoing (table_reaction words call)))

unfoldable pub table_after : (words : List ℕ) (room : ℕ) → HubCall → List ℕ
table_after words room call =
    if eqb (table_refusal words room call) accepted then laid_unit (table_reaction words call).unit else words

unfoldable pub buffer_after : (words buffer : List ℕ) → HubCall → List ℕ
buffer_after words buffer call =
    if eqb (table_refusal words (length buffer) call) accepted then outgoing_laid (table_reaction words call) buffer else buffer

-- The fresh unit's table.
unfoldable pub fresh_table_answer : (words : List ℕ) (n me : ℕ) → ℕ
fresh_table_answer words n me = hub_answer (hub_fresh_refusal n me (eqb (length words) unit_words)) 0

unfoldable pub fresh_table : (words : List ℕ) (n me : ℕ) → List ℕ
fresh_table words n me =
    if eqb (hub_fresh_refusal n me (eqb (length words) unit_words)) accepted then laid_unit (fresh_unit n me) else words

-- Questions to a table, which change nothing: 2, then 3 for a destination that is no unit, else 100 plus the value, and the
-- largest number for unreachable.
abbrev pub reachable : (distance : ℕ) → ℕ
reachable distance = if eqb distance far then far else answer_base + distance

unfoldable pub active_answer : (words : List ℕ) → ℕ
active_answer words = hub_answer (not (fit_unit_table words) gives 2) (if is_active (unit_from words) then 1 else 0)

abbrev pub question_refusal : (words : List ℕ) (to : ℕ) → ℕ
question_refusal words to = not (fit_unit_table words) gives 2 otherwise hub_question_refusal (unit_from words) to

unfoldable pub distance_answer : (words : List ℕ) (to : ℕ) → ℕ
distance_answer words to =
    if eqb (question_refusal words to) accepted then reachable (own_distance (unit_from words) to) else question_refusal words to

unfoldable pub feasible_answer : (words : List ℕ) (to : ℕ) → ℕ
feasible_answer words to =
    if eqb (question_refusal words to) accepted then reachable (at (unit_from words).feasible to)
    else question_refusal words to

unfoldable pub successors_answer : (words : List ℕ) (to : ℕ) → ℕ
successors_answer words to = hub_answer (question_refusal words to) (successor_set (unit_from words) to)

-- "For each neighbour whose link is up: the cost, .. whether an acknowledgment is awaited": the cost is 0 where the link is
-- down, and the wait 1 or 0.
unfoldable pub link_answer : (words : List ℕ) (to : ℕ) → ℕ
link_answer words to = hub_answer (question_refusal words to) (at (unit_from words).costs to)

unfoldable pub awaits_answer : (words : List ℕ) (to : ℕ) → ℕ
awaits_answer words to = hub_answer (question_refusal words to) (at (unit_from words).awaited to)
