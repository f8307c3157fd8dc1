-- Order: single figures and places read from a meter's table and counted in it, and questions by their names
-- (proofs/ReadFrames.antt, proofs/MeterAnswers.antt).
use Rattle.std.specs.Prelude.{ℕ, List, Option, Some, None, eqb, length}
use Rattle.std.specs.Prelude.{if◌then◌else◌}
use Rattle.frames.specs.Meter.{Frame, no_frame, is_held, Meter, frame_at, held_bytes, held_frames}
use Rattle.frames.specs.Meter.{counts_entered, counts_delivered, counts_dropped}
use Rattle.frames.specs.MeterTable.{entered_at, delivered_at, dropped_at, meter_words, meter_from}
use Rattle.frames.specs.MeterTable.{entered_answer, delivered_answer, dropped_answer, held_answer, frames_answer}
use Rattle.frames.specs.MeterTable.{size_answer, unit_answer, destination_answer, hops_answer}
use Rattle.meter.specs.declared.questions.Field.{Field}
use Rattle.meter.specs.declared.questions.Field.TheVariants.{Size, Unit, Destination, Hops}
use Rattle.meter.specs.declared.table.Figure.{Figure}
use Rattle.meter.specs.declared.table.Figure.TheVariants.{Entered, Delivered, Dropped, Held, Frames}
use Rattle.meter.specs.declared.table.Frame.{Frame as FrameRead}
use Rattle.meter.specs.declared.table.Sum.{Sum}
use Rattle.meter.specs.declared.table.Sum.TheVariants.{Entered as EnteredSum, Delivered as DeliveredSum}
use Rattle.meter.specs.declared.table.Sum.TheVariants.{Dropped as DroppedSum}

-- A frame as code has it, and the other way.
abbrev pub as_read : Frame → FrameRead
as_read frame =
    record { size = frame.size; unit = frame.unit; destination = frame.destination; hops = frame.hops }

abbrev pub frame_of : FrameRead → Frame
frame_of frame =
    record { size = frame.size; unit = frame.unit; destination = frame.destination; hops = frame.hops }

-- What stands at a place of a table.
unfoldable pub frame_in : (meter : List ℕ) (place : ℕ) → Frame
frame_in meter place = if eqb (length meter) meter_words then frame_at (meter_from meter) place else no_frame

-- The frame that is held there, if one is.
abbrev pub held_in : (meter : List ℕ) (place : ℕ) → Option FrameRead
held_in meter place = if is_held (frame_in meter place) then Some (as_read (frame_in meter place)) else None

-- A figure of a meter, and of a table.
abbrev pub figure_of : Figure → Meter → ℕ
figure_of Entered meter = meter.entered
figure_of Delivered meter = meter.delivered
figure_of Dropped meter = meter.dropped
figure_of Held meter = held_bytes meter
figure_of Frames meter = held_frames meter

unfoldable pub figure_in : Figure → (meter : List ℕ) → ℕ
figure_in which meter = if eqb (length meter) meter_words then figure_of which (meter_from meter) else 0

-- Where a figure stands, and the meter with bytes counted to it.
abbrev pub start_of : Sum → ℕ
start_of EnteredSum = entered_at
start_of DeliveredSum = delivered_at
start_of DroppedSum = dropped_at

abbrev pub counts : Sum → (size : ℕ) → Meter → Meter
counts EnteredSum size meter = counts_entered size meter
counts DeliveredSum size meter = counts_delivered size meter
counts DroppedSum size meter = counts_dropped size meter

-- The answer to each question.
abbrev pub figure_asked : Figure → (words bytes meter : List ℕ) → ℕ
figure_asked Entered words bytes meter = entered_answer words bytes meter
figure_asked Delivered words bytes meter = delivered_answer words bytes meter
figure_asked Dropped words bytes meter = dropped_answer words bytes meter
figure_asked Held words bytes meter = held_answer words bytes meter
figure_asked Frames words bytes meter = frames_answer words bytes meter

abbrev pub field_of : Field → Frame → ℕ
field_of Size frame = frame.size
field_of Unit frame = frame.unit
field_of Destination frame = frame.destination
field_of Hops frame = frame.hops

abbrev pub field_asked : Field → (words bytes meter : List ℕ) (place : ℕ) → ℕ
field_asked Size words bytes meter place = size_answer words bytes meter place
field_asked Unit words bytes meter place = unit_answer words bytes meter place
field_asked Destination words bytes meter place = destination_answer words bytes meter place
field_asked Hops words bytes meter place = hops_answer words bytes meter place
