-- Rule: the meter over the routes: "A frame enters, moves one hop to a named present successor, or is dropped; at its destination
-- it is delivered."
use Rattle.std.specs.Prelude.{ℕ, suc, ◌+◌, Bool, not, ◌&&◌, List, eqb, ltb, leb, get_or, set}
use Rattle.std.specs.Prelude.{if◌then◌else◌}
use Rattle.ground.specs.Limits.{frame_limit, legal_size, hop_limit, entered_limit}
use Rattle.ground.specs.Refusal.{◌gives◌, ◌otherwise◌}
use Rattle.ground.specs.Rows.{tab, every, total, lowest}
use Rattle.rules.specs.Network.{Network, is_successor_in}

-- "up to 64 frames, each with a size of 1 to 65,535 bytes, the unit it is at and a destination"; and the hops that it has made.
pub record Frame : Type 0 where
  pub size : ℕ
  pub unit : ℕ
  pub destination : ℕ
  pub hops : ℕ

-- A free place holds zeros. No frame has the size 0, so the size tells whether a place holds one.
abbrev pub no_frame : Frame
no_frame = record { size = 0; unit = 0; destination = 0; hops = 0 }

abbrev pub is_held : Frame → Bool
is_held frame = not (eqb frame.size 0)

-- The bytes that have entered, that were delivered and that were dropped; and the places.
pub record Meter : Type 0 where
  pub entered : ℕ
  pub delivered : ℕ
  pub dropped : ℕ
  pub frames : List Frame

-- The frame at a place, "whose number names it".
abbrev pub frame_at : Meter → (place : ℕ) → Frame
frame_at meter place = get_or meter.frames place no_frame

-- The bytes held, and the number of frames held.
abbrev pub held_bytes : Meter → ℕ
held_bytes meter = total frame_limit (λ place. (frame_at meter place).size)

abbrev pub held_frames : Meter → ℕ
held_frames meter = total frame_limit (λ place. if is_held (frame_at meter place) then 1 else 0)

-- "A frame takes the lowest of 64 places that is free"; 64 where none is.
abbrev pub free_place : Meter → ℕ
free_place meter = lowest frame_limit (λ place. not (is_held (frame_at meter place)))

-- The fresh meter holds nothing.
unfoldable pub fresh_meter : Meter
fresh_meter = record { entered = 0; delivered = 0; dropped = 0; frames = tab frame_limit (λ place. no_frame) }

-- The meter with another frame at a place, and with bytes counted.
abbrev pub with_frame : Meter → (place : ℕ) → Frame → Meter
with_frame meter place frame =
    record {
      entered = meter.entered;
      delivered = meter.delivered;
      dropped = meter.dropped;
      frames = set meter.frames place frame;
    }

abbrev pub counts_entered : (size : ℕ) → Meter → Meter
counts_entered size meter =
    record {
      entered = meter.entered + size;
      delivered = meter.delivered;
      dropped = meter.dropped;
      frames = meter.frames;
    }

abbrev pub counts_delivered : (size : ℕ) → Meter → Meter
counts_delivered size meter =
    record {
      entered = meter.entered;
      delivered = meter.delivered + size;
      dropped = meter.dropped;
      frames = meter.frames;
    }

abbrev pub counts_dropped : (size : ℕ) → Meter → Meter
counts_dropped size meter =
    record {
      entered = meter.entered;
      delivered = meter.delivered;
      dropped = meter.dropped + size;
      frames = meter.frames;
    }

-- The calls that change a meter. A frame is named by its place.
pub data MeterCall : Type 0 where
  enters : (size unit destination : ℕ) → MeterCall
  moves : (place unit : ℕ) → MeterCall
  drops : (place : ℕ) → MeterCall

-- What an accepted call makes of its frame: it is held at a place, or delivered, or dropped.
pub data Fate : Type 0 where
  as_held : (place : ℕ) → Fate
  as_delivered : Fate
  as_dropped : Fate

-- "A frame entered at its destination is delivered at once." A frame that moves to its destination is delivered; "at its 64th
-- hop it is delivered if that hop reaches the destination, else dropped".
unfoldable pub fate : Meter → MeterCall → Fate
fate meter (enters size unit destination) = if eqb unit destination then as_delivered else as_held (free_place meter)
fate meter (moves place unit) =
    if eqb unit (frame_at meter place).destination then as_delivered
    else if ltb (suc (frame_at meter place).hops) hop_limit then as_held place
    else as_dropped
fate meter (drops place) = as_dropped

-- A frame that has just entered, and one that has moved a hop.
abbrev pub new_frame : (size unit destination : ℕ) → Frame
new_frame size unit destination = record { size = size; unit = unit; destination = destination; hops = 0 }

abbrev pub moved_frame : Frame → (unit : ℕ) → Frame
moved_frame frame unit =
    record { size = frame.size; unit = unit; destination = frame.destination; hops = suc frame.hops }

-- What becomes of the frame at a place: it stands there as it is now, or its bytes are delivered or dropped and the place is
-- free.
unfoldable pub settled : Meter → (place : ℕ) → Frame → Fate → Meter
settled meter place frame (as_held here) = with_frame meter here frame
settled meter place frame as_delivered = counts_delivered frame.size (with_frame meter place no_frame)
settled meter place frame as_dropped = counts_dropped frame.size (with_frame meter place no_frame)

-- The meter after a call. A frame that is delivered at once takes no place.
unfoldable pub metered : Meter → MeterCall → Meter
metered meter (enters size unit destination) =
    let come = counts_entered size meter in
    if eqb unit destination then counts_delivered size come
    else with_frame come (free_place meter) (new_frame size unit destination)
metered meter (moves place unit) =
    settled meter place (moved_frame (frame_at meter place) unit) (fate meter (moves place unit))
metered meter (drops place) = settled meter place (frame_at meter place) as_dropped

-- "14 no free place, exactly when 64 are held; 15 entered bytes would pass 10^15; 16 a size not 1 to 65,535, a move or drop of a
-- frame that isn't held, or a move to a unit that is no present successor". 3: "a unit number not below the count".
unfoldable pub meter_call_refusal : Network → Meter → MeterCall → ℕ
meter_call_refusal net meter (enters size unit destination) =
    not (ltb unit net.count && ltb destination net.count) gives 3
    otherwise eqb (held_frames meter) frame_limit gives 14
    otherwise ltb entered_limit (meter.entered + size) gives 15
    otherwise not (legal_size size) gives 16
meter_call_refusal net meter (moves place unit) =
    not (ltb unit net.count) gives 3
    otherwise not (is_held (frame_at meter place)) gives 16
    otherwise not (is_successor_in net (frame_at meter place).unit (frame_at meter place).destination unit) gives 16
meter_call_refusal net meter (drops place) = not (is_held (frame_at meter place)) gives 16

-- "2 also covers a meter with a held frame of another size, with a unit or destination not below the count, at its destination
-- or with more than 63 hops": a place holds zeros or such a frame. n is the count.
unfoldable pub fit_frame : (n : ℕ) → Frame → Bool
fit_frame n frame =
    if is_held frame
    then legal_size frame.size
    && ltb frame.unit n
    && ltb frame.destination n
    && not (eqb frame.unit frame.destination)
    && ltb frame.hops hop_limit
    else eqb frame.unit 0 && eqb frame.destination 0 && eqb frame.hops 0

-- "or whose entered bytes pass 10^15 or aren't the sum of delivered, dropped and held"
unfoldable pub fit_meter : (n : ℕ) → Meter → Bool
fit_meter n meter =
    every frame_limit (λ place. fit_frame n (frame_at meter place))
    && leb meter.entered entered_limit
    && eqb meter.entered (meter.delivered + meter.dropped + held_bytes meter)
