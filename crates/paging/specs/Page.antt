-- Rule: what `page` prints of a meter: the figures, one a line, then each frame that is held, by its place.
-- Order: `found_text`: the line of a place by what is found there (proofs/Paged.antt).
use Rattle.std.specs.Prelude.{ℕ, List, [], ◌∷◌, ◌++◌, Option, Some, None}
use Rattle.ground.specs.Bytes.{newline, space}
use Rattle.std.specs.Prelude.{if◌then◌else◌}
use Rattle.ground.specs.Limits.{frame_limit}
use Rattle.ground.specs.Rows.{tab, joined}
use Rattle.frames.specs.Meter.{Frame, is_held, Meter, frame_at, held_bytes, held_frames}
use Rattle.frames.specs.MeterTable.{meter_from, fit_metered}
use Rattle.meter.specs.Reading.{frame_of}
use Rattle.meter.specs.declared.table.Frame.{Frame as FrameRead}
use Rattle.texts.specs.Printed.{refused_line, figure_line}
use Rattle.texts.specs.Texts.{decimal_of, held_word, delivered_word, dropped_word}

-- The words of a page: entered, frames; frame, size, at, to, hops.
abbrev pub entered_word : List ℕ
entered_word = 101 ∷ 110 ∷ 116 ∷ 101 ∷ 114 ∷ 101 ∷ 100 ∷ []

abbrev pub frames_word : List ℕ
frames_word = 102 ∷ 114 ∷ 97 ∷ 109 ∷ 101 ∷ 115 ∷ []

abbrev pub frame_word : List ℕ
frame_word = 102 ∷ 114 ∷ 97 ∷ 109 ∷ 101 ∷ []

abbrev pub size_word : List ℕ
size_word = 115 ∷ 105 ∷ 122 ∷ 101 ∷ []

abbrev pub at_word : List ℕ
at_word = 97 ∷ 116 ∷ []

abbrev pub to_word : List ℕ
to_word = 116 ∷ 111 ∷ []

abbrev pub hops_word : List ℕ
hops_word = 104 ∷ 111 ∷ 112 ∷ 115 ∷ []

-- A word and a number, each after a space.
abbrev pub named_text : (name : List ℕ) (number : ℕ) → List ℕ
named_text name number = (space ∷ name) ++ (space ∷ decimal_of number)

-- `frame 3 size 1500 at 2 to 5 hops 1`
abbrev pub frame_line : (place : ℕ) → Frame → List ℕ
frame_line place frame =
    frame_word
    ++ (space ∷ decimal_of place)
    ++ named_text size_word frame.size
    ++ named_text at_word frame.unit
    ++ named_text to_word frame.destination
    ++ named_text hops_word frame.hops
    ++ (newline ∷ [])

-- The line of a place that holds a frame; none of a free one.
unfoldable pub place_text : (place : ℕ) → Frame → List ℕ
place_text place frame = if is_held frame then frame_line place frame else []

-- The same by the frame that is found there, if one is.
abbrev pub found_text : (place : ℕ) → Option FrameRead → List ℕ
found_text place (Some frame) = frame_line place (frame_of frame)
found_text place None = []

-- The lines of the places below a number.
abbrev pub places_text : Meter → (below : ℕ) → List ℕ
places_text meter below = joined (tab below (λ place. place_text place (frame_at meter place)))

unfoldable pub figures_text : Meter → List ℕ
figures_text meter =
    figure_line entered_word meter.entered
    ++ figure_line delivered_word meter.delivered
    ++ figure_line dropped_word meter.dropped
    ++ figure_line held_word (held_bytes meter)
    ++ figure_line frames_word (held_frames meter)

unfoldable pub page_of : Meter → List ℕ
page_of meter = figures_text meter ++ places_text meter frame_limit

-- Tables that are not fit are refused with 2.
unfoldable pub page_text : (words bytes meter : List ℕ) → List ℕ
page_text words bytes meter = if fit_metered words bytes meter then page_of (meter_from meter) else refused_line 2
