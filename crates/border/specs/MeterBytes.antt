-- Rule: a meter at the C border: its table as bytes, 4 for each number, high byte first, beside a network's units and queues.
-- Tables of another length are unfit.
use Rattle.std.specs.Prelude.{ℕ, ◌*◌, Bool, not, ◌&&◌, List, eqb, length}
use Rattle.std.specs.Prelude.{if◌then◌else◌}
use Rattle.ground.specs.Refusal.{◌gives◌}
use Rattle.rules.specs.Tables.{bytes_of, words_of}
use Rattle.frames.specs.Meter.{fresh_meter, MeterCall, enters, moves, drops}
use Rattle.frames.specs.MeterTable.{meter_words, laid_meter, meter_answer, meter_after}
use Rattle.border.specs.NetworkBytes.{are_units_long}
use Rattle.border.specs.declared.meters.FrameCall.{FrameCall}
use Rattle.border.specs.declared.meters.FrameCall.TheVariants.{Enter, Move, Drop}

abbrev pub meter_bytes : ℕ
meter_bytes = 4 * meter_words

abbrev pub is_meter_long : (meter : List ℕ) → Bool
is_meter_long meter = eqb (length meter) meter_bytes

abbrev pub are_long : (units meter : List ℕ) → Bool
are_long units meter = are_units_long units && is_meter_long meter

-- Calls: the answer, and what is left of the meter. The network's tables are only read.
abbrev pub frame_told : FrameCall → MeterCall
frame_told (Enter size unit destination) = enters size unit destination
frame_told (Move place unit) = moves place unit
frame_told (Drop place) = drops place

unfoldable pub border_meter_call : (units queues meter : List ℕ) → MeterCall → ℕ
border_meter_call units queues meter call =
    if are_long units meter then meter_answer (words_of units) queues (words_of meter) call else 2

unfoldable pub border_meter : (units queues meter : List ℕ) → MeterCall → List ℕ
border_meter units queues meter call =
    if are_long units meter then bytes_of (meter_after (words_of units) queues (words_of meter) call) else meter

-- The fresh meter: 2 for a slice not of its fixed length.
abbrev pub border_fresh_meter_refusal : (meter : List ℕ) → ℕ
border_fresh_meter_refusal meter = not (is_meter_long meter) gives 2

unfoldable pub fresh_meter_bytes : (meter : List ℕ) → List ℕ
fresh_meter_bytes meter = if is_meter_long meter then bytes_of (laid_meter fresh_meter) else meter

-- Questions.
abbrev pub asked_of_meter : (units meter : List ℕ) (answer : (words table : List ℕ) → ℕ) → ℕ
asked_of_meter units meter answer = if are_long units meter then answer (words_of units) (words_of meter) else 2
