-- Rule: what a line prints, and what it leaves of the tables. The script program of document 01 has no meter: it lends none, a
-- slice of no numbers, and then there are no commands of a meter.
-- Order: `answer_room`: the room that every answer finds enough (proofs/Room.antt).
use Rattle.std.specs.Prelude.{ℕ, ◌*◌, Bool, not, List, eqb, length}
use Rattle.std.specs.Prelude.{if◌then◌else◌}
use Rattle.ground.specs.Limits.{unit_limit}
use Rattle.ground.specs.Refusal.{accepted}
use Rattle.rules.specs.Network.{up, cost, down, deliver}
use Rattle.rules.specs.NetworkTable.{network_refusal, words_after, bytes_after, fresh_network_refusal, fresh_words, fresh_bytes}
use Rattle.frames.specs.Meter.{MeterCall, enters, moves, drops, Fate, as_held, as_delivered, as_dropped, fate}
use Rattle.frames.specs.MeterTable.{meter_from, meter_refusal, meter_after, fresh_meter_table}
use Rattle.lines.specs.Commands.{command_of}
use Rattle.lines.specs.declared.Command.{Command}
use Rattle.lines.specs.declared.Command.TheVariants.{Units, Up, Cost, Down, Deliver, Show, Enter, Move, Drop, Page, Bad}
use Rattle.listing.specs.Shown.{show_text}
use Rattle.paging.specs.Page.{page_text}
use Rattle.texts.specs.Printed.{ok_line, refused_line, bad_line, held_line, delivered_line, dropped_line, line_room}

-- "It prints `ok`, `refused n` or, for any other line, `bad line`."
abbrev pub verdict : (refusal : ℕ) → List ℕ
verdict refusal = if eqb refusal accepted then ok_line else refused_line refusal

-- What a call of a meter prints: what became of the frame, or the refusal.
abbrev pub fate_text : Fate → List ℕ
fate_text (as_held place) = held_line place
fate_text as_delivered = delivered_line
fate_text as_dropped = dropped_line

abbrev pub frame_verdict : (words bytes meter : List ℕ) → MeterCall → List ℕ
frame_verdict words bytes meter call =
    if eqb (meter_refusal words bytes meter call) accepted then fate_text (fate (meter_from meter) call)
    else refused_line (meter_refusal words bytes meter call)

-- "Before a good `units`, which starts afresh each time, other commands answer `refused 2`": tables of zeros, with which
-- the program begins, are unfit.
unfoldable pub printed : (words bytes meter : List ℕ) → Command → List ℕ
printed words bytes meter (Units n) = verdict (fresh_network_refusal words bytes n)
printed words bytes meter (Up a b ca cb) = verdict (network_refusal words bytes (up a b ca cb))
printed words bytes meter (Cost a b c) = verdict (network_refusal words bytes (cost a b c))
printed words bytes meter (Down a b) = verdict (network_refusal words bytes (down a b))
printed words bytes meter (Deliver a b) = verdict (network_refusal words bytes (deliver a b))
printed words bytes meter Show = show_text words bytes
printed words bytes meter (Enter size unit destination) = frame_verdict words bytes meter (enters size unit destination)
printed words bytes meter (Move place unit) = frame_verdict words bytes meter (moves place unit)
printed words bytes meter (Drop place) = frame_verdict words bytes meter (drops place)
printed words bytes meter Page = page_text words bytes meter
printed words bytes meter Bad = bad_line

unfoldable pub words_then : (words bytes : List ℕ) → Command → List ℕ
words_then words bytes (Units n) = fresh_words words bytes n
words_then words bytes (Up a b ca cb) = words_after words bytes (up a b ca cb)
words_then words bytes (Cost a b c) = words_after words bytes (cost a b c)
words_then words bytes (Down a b) = words_after words bytes (down a b)
words_then words bytes (Deliver a b) = words_after words bytes (deliver a b)
words_then words bytes Show = words
words_then words bytes (Enter size unit destination) = words
words_then words bytes (Move place unit) = words
words_then words bytes (Drop place) = words
words_then words bytes Page = words
words_then words bytes Bad = words

unfoldable pub bytes_then : (words bytes : List ℕ) → Command → List ℕ
bytes_then words bytes (Units n) = fresh_bytes words bytes n
bytes_then words bytes (Up a b ca cb) = bytes_after words bytes (up a b ca cb)
bytes_then words bytes (Cost a b c) = bytes_after words bytes (cost a b c)
bytes_then words bytes (Down a b) = bytes_after words bytes (down a b)
bytes_then words bytes (Deliver a b) = bytes_after words bytes (deliver a b)
bytes_then words bytes Show = bytes
bytes_then words bytes (Enter size unit destination) = bytes
bytes_then words bytes (Move place unit) = bytes
bytes_then words bytes (Drop place) = bytes
bytes_then words bytes Page = bytes
bytes_then words bytes Bad = bytes

-- A good `units` starts the meter afresh too.
unfoldable pub meter_then : (words bytes meter : List ℕ) → Command → List ℕ
meter_then words bytes meter (Units n) =
    if eqb (fresh_network_refusal words bytes n) accepted then fresh_meter_table meter else meter
meter_then words bytes meter (Up a b ca cb) = meter
meter_then words bytes meter (Cost a b c) = meter
meter_then words bytes meter (Down a b) = meter
meter_then words bytes meter (Deliver a b) = meter
meter_then words bytes meter Show = meter
meter_then words bytes meter (Enter size unit destination) = meter_after words bytes meter (enters size unit destination)
meter_then words bytes meter (Move place unit) = meter_after words bytes meter (moves place unit)
meter_then words bytes meter (Drop place) = meter_after words bytes meter (drops place)
meter_then words bytes meter Page = meter
meter_then words bytes meter Bad = meter

-- Whether there is a meter, and the command that a line is.
abbrev pub is_metered : (meter : List ℕ) → Bool
is_metered meter = not (eqb (length meter) 0)

abbrev pub command_with : (meter line : List ℕ) → Command
command_with meter line = command_of (is_metered meter) line

-- What a line prints, and the room that it always finds enough: a printed line for each two units.
abbrev pub answer_text : (words bytes meter line : List ℕ) → List ℕ
answer_text words bytes meter line = printed words bytes meter (command_with meter line)

abbrev pub answer_room : ℕ
answer_room = unit_limit * unit_limit * line_room
