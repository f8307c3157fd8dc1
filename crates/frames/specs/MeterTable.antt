-- Rule: the meter's table of numbers, and its calls and questions over it and a network's tables. A figure may pass 32 bits, so
-- it takes two numbers, the high one first; each place takes four. Each meter has one table, and each table of this length
-- one meter.
use Rattle.std.specs.Prelude.{ℕ, ◌+◌, ◌*◌, ◌/◌, ◌%◌, Bool, not, ◌&&◌, List, [], ◌∷◌, ◌++◌, map, eqb, length}
use Rattle.std.specs.Prelude.{if◌then◌else◌}
use Rattle.ground.specs.Limits.{frame_limit, far}
use Rattle.ground.specs.Refusal.{accepted, answer_base, ◌gives◌, ◌otherwise◌}
use Rattle.ground.specs.Rows.{at, tab, joined}
use Rattle.rules.specs.Hub.{hub_answer}
use Rattle.rules.specs.Tables.{network_from, fit_tables}
use Rattle.frames.specs.Meter.{Frame, is_held, Meter, frame_at, held_bytes, held_frames, fresh_meter}
use Rattle.frames.specs.Meter.{MeterCall, Fate, as_held, as_delivered, as_dropped}
use Rattle.frames.specs.Meter.{fate, metered, meter_call_refusal, fit_meter}

-- The index rule of a meter's table: entered, delivered, dropped, then the places.
abbrev pub entered_at : ℕ
entered_at = 0

abbrev pub delivered_at : ℕ
delivered_at = 2

abbrev pub dropped_at : ℕ
dropped_at = 4

abbrev pub place_at : (place : ℕ) → ℕ
place_at place = 6 + place * 4

abbrev pub meter_words : ℕ
meter_words = place_at frame_limit

-- A figure in two numbers: the first counts one more than the largest that a number can be.
abbrev pub figure_base : ℕ
figure_base = far + 1

abbrev pub laid_figure : (figure : ℕ) → List ℕ
laid_figure figure = figure / figure_base ∷ figure % figure_base ∷ []

abbrev pub figure_from : (words : List ℕ) (from : ℕ) → ℕ
figure_from words from = at words from * figure_base + at words (from + 1)

-- A place in four numbers.
abbrev pub laid_frame : Frame → List ℕ
laid_frame frame = frame.size ∷ frame.unit ∷ frame.destination ∷ frame.hops ∷ []

abbrev pub frame_from : (words : List ℕ) (from : ℕ) → Frame
frame_from words from =
    record {
      size = at words from;
      unit = at words (from + 1);
      destination = at words (from + 2);
      hops = at words (from + 3);
    }

unfoldable pub laid_meter : Meter → List ℕ
laid_meter meter =
    laid_figure meter.entered
    ++ laid_figure meter.delivered
    ++ laid_figure meter.dropped
    ++ joined (map laid_frame meter.frames)

unfoldable pub meter_from : (words : List ℕ) → Meter
meter_from words =
    record {
      entered = figure_from words entered_at;
      delivered = figure_from words delivered_at;
      dropped = figure_from words dropped_at;
      frames = tab frame_limit (λ place. frame_from words (place_at place));
    }

-- "In the meter's calls 2 also covers a meter": a slice not of its fixed length or a meter that is not fit over the network,
-- besides the network's own tables.
unfoldable pub fit_table : (n : ℕ) (meter : List ℕ) → Bool
fit_table n meter = eqb (length meter) meter_words && fit_meter n (meter_from meter)

unfoldable pub fit_metered : (words bytes meter : List ℕ) → Bool
fit_metered words bytes meter = fit_tables words bytes && fit_table (network_from words bytes).count meter

-- Calls: 2 first, then the others; what is not refused answers what became of the frame: 100 and its place where it is held, 200
-- where it is delivered, 300 where it is dropped. A refusal changes nothing.
unfoldable pub meter_refusal : (words bytes meter : List ℕ) → MeterCall → ℕ
meter_refusal words bytes meter call =
    not (fit_metered words bytes meter) gives 2
    otherwise meter_call_refusal (network_from words bytes) (meter_from meter) call

abbrev pub fate_number : Fate → ℕ
fate_number (as_held place) = answer_base + place
fate_number as_delivered = 2 * answer_base
fate_number as_dropped = 3 * answer_base

unfoldable pub meter_answer : (words bytes meter : List ℕ) → MeterCall → ℕ
meter_answer words bytes meter call =
    if eqb (meter_refusal words bytes meter call) accepted then fate_number (fate (meter_from meter) call)
    else meter_refusal words bytes meter call

unfoldable pub meter_after : (words bytes meter : List ℕ) → MeterCall → List ℕ
meter_after words bytes meter call =
    if eqb (meter_refusal words bytes meter call) accepted then laid_meter (metered (meter_from meter) call) else meter

-- The fresh meter: 2 for a slice not of its fixed length, which is all that is tested.
abbrev pub fresh_meter_refusal : (meter : List ℕ) → ℕ
fresh_meter_refusal meter = not (eqb (length meter) meter_words) gives 2

unfoldable pub fresh_meter_table : (meter : List ℕ) → List ℕ
fresh_meter_table meter = if eqb (fresh_meter_refusal meter) accepted then laid_meter fresh_meter else meter

-- Questions: 2, then 16 for a frame that is not held, else 100 plus the value.
abbrev pub figure_answer : (words bytes meter : List ℕ) (value : ℕ) → ℕ
figure_answer words bytes meter value = hub_answer (not (fit_metered words bytes meter) gives 2) value

unfoldable pub entered_answer : (words bytes meter : List ℕ) → ℕ
entered_answer words bytes meter = figure_answer words bytes meter (meter_from meter).entered

unfoldable pub delivered_answer : (words bytes meter : List ℕ) → ℕ
delivered_answer words bytes meter = figure_answer words bytes meter (meter_from meter).delivered

unfoldable pub dropped_answer : (words bytes meter : List ℕ) → ℕ
dropped_answer words bytes meter = figure_answer words bytes meter (meter_from meter).dropped

unfoldable pub held_answer : (words bytes meter : List ℕ) → ℕ
held_answer words bytes meter = figure_answer words bytes meter (held_bytes (meter_from meter))

unfoldable pub frames_answer : (words bytes meter : List ℕ) → ℕ
frames_answer words bytes meter = figure_answer words bytes meter (held_frames (meter_from meter))

abbrev pub frame_refusal : (words bytes meter : List ℕ) (place : ℕ) → ℕ
frame_refusal words bytes meter place =
    not (fit_metered words bytes meter) gives 2
    otherwise not (is_held (frame_at (meter_from meter) place)) gives 16

unfoldable pub size_answer : (words bytes meter : List ℕ) (place : ℕ) → ℕ
size_answer words bytes meter place =
    hub_answer (frame_refusal words bytes meter place) (frame_at (meter_from meter) place).size

unfoldable pub unit_answer : (words bytes meter : List ℕ) (place : ℕ) → ℕ
unit_answer words bytes meter place =
    hub_answer (frame_refusal words bytes meter place) (frame_at (meter_from meter) place).unit

unfoldable pub destination_answer : (words bytes meter : List ℕ) (place : ℕ) → ℕ
destination_answer words bytes meter place =
    hub_answer (frame_refusal words bytes meter place) (frame_at (meter_from meter) place).destination

unfoldable pub hops_answer : (words bytes meter : List ℕ) (place : ℕ) → ℕ
hops_answer words bytes meter place =
    hub_answer (frame_refusal words bytes meter place) (frame_at (meter_from meter) place).hops
