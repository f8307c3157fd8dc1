-- How many bytes a page has at most: a line for each figure and each place.
use Prim.Native.Nat.{ℕ, ◌+◌, ◌*◌, ◌≤◌}
use native.Mathlib.Nat.{le_refl}
use native.Mathlib.Omega.{arith}
use mathlib.Core.List.{List, [], ◌∷◌, ◌++◌}
use lib.ListN.{length, length-append}
use Rattle.ground.specs.Bytes.{newline, space}
use Rattle.ground.specs.Limits.{frame_limit}
use Rattle.ground.proofs.Choices.{by_choice}
use Rattle.ground.proofs.Joined.{joined_most}
use Rattle.frames.specs.Meter.{Frame, is_held, Meter, frame_at, held_bytes, held_frames}
use Rattle.frames.specs.MeterTable.{meter_from, fit_metered}
use Rattle.texts.specs.Printed.{refused_line, figure_line, line_room}
use Rattle.texts.specs.Texts.{decimal_room, decimal_of, held_word, delivered_word, dropped_word}
use Rattle.texts.proofs.Lengths.{decimal_most, refused_most, figure_most}
use Rattle.paging.specs.Page.{entered_word, frames_word, frame_word, size_word, at_word, to_word, hops_word}
use Rattle.paging.specs.Page.{named_text, frame_line, place_text, places_text, figures_text, page_of, page_text}

-- The lines of a page: five figures, and the places.
abbrev pub page_lines : ℕ
page_lines = 5 + frame_limit

-- A word and a number.
named_most : (name : List ℕ) (number : ℕ) → length (named_text name number) ≤ length name + 2 + decimal_room
named_most name number = omega (arith, length-append (space ∷ name) (space ∷ decimal_of number), decimal_most number)

-- The line of a frame.
frame_most : (place : ℕ) (frame : Frame) → length (frame_line place frame) ≤ line_room
frame_most place frame =
    let placed = frame_word ++ (space ∷ decimal_of place) in
    let sized = placed ++ named_text size_word frame.size in
    let standing = sized ++ named_text at_word frame.unit in
    let bound = standing ++ named_text to_word frame.destination in
    let all = bound ++ named_text hops_word frame.hops in
    omega (
      arith,
      length-append all (newline ∷ []),
      length-append bound (named_text hops_word frame.hops),
      length-append standing (named_text to_word frame.destination),
      length-append sized (named_text at_word frame.unit),
      length-append placed (named_text size_word frame.size),
      length-append frame_word (space ∷ decimal_of place),
      decimal_most place,
      named_most size_word frame.size,
      named_most at_word frame.unit,
      named_most to_word frame.destination,
      named_most hops_word frame.hops,
    )

-- The line of a place.
place_most : (place : ℕ) (frame : Frame) → length (place_text place frame) ≤ line_room
unfolding place_text
place_most place frame =
    by_choice (λ (text : List ℕ). length text ≤ line_room) (is_held frame) (frame_line place frame) []
    (λ t. frame_most place frame)
    (λ f. omega arith)

-- The figures.
figures_most : (meter : Meter) → length (figures_text meter) ≤ 5 * line_room
unfolding figures_text
figures_most meter =
    let first = figure_line entered_word meter.entered in
    let second = figure_line delivered_word meter.delivered in
    let third = figure_line dropped_word meter.dropped in
    let fourth = figure_line held_word (held_bytes meter) in
    let fifth = figure_line frames_word (held_frames meter) in
    omega (
      arith,
      length-append (first ++ second ++ third ++ fourth) fifth,
      length-append (first ++ second ++ third) fourth,
      length-append (first ++ second) third,
      length-append first second,
      figure_most entered_word meter.entered,
      figure_most delivered_word meter.delivered,
      figure_most dropped_word meter.dropped,
      figure_most held_word (held_bytes meter),
      figure_most frames_word (held_frames meter),
    )

-- A page.
page_of_most : (meter : Meter) → length (page_of meter) ≤ page_lines * line_room
unfolding page_of
page_of_most meter =
    let places : ℕ → List ℕ = λ place. place_text place (frame_at meter place) in
    omega (
      arith,
      length-append (figures_text meter) (places_text meter frame_limit),
      figures_most meter,
      joined_most line_room frame_limit places (λ place l. place_most place (frame_at meter place)) frame_limit (le_refl frame_limit),
    )

-- What `page` prints.
pub page_most : (words bytes meter : List ℕ) → length (page_text words bytes meter) ≤ page_lines * line_room
unfolding page_text
page_most words bytes meter =
    by_choice (λ (text : List ℕ). length text ≤ page_lines * line_room) (fit_metered words bytes meter) (page_of (meter_from meter))
    (refused_line 2)
    (λ fit. page_of_most (meter_from meter))
    (λ unfit. omega (arith, refused_most 2))
