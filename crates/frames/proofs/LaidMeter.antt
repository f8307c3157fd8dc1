-- A meter and its table: each meter reads back from its table, each table of its length is what its meter lays out, and a figure
-- or a place laid over a table changes just that of its meter.
use Prim.Native.Nat.{ℕ, ◌+◌, ◌*◌, ◌/◌, ◌%◌, ◌<◌}
use native.Mathlib.Nat.{add-zero}
use native.Mathlib.Omega.{arith}
use mathlib.Core.List.{List, [], ◌∷◌, ◌++◌, map, append-nil, append_assoc}
use mathlib.Core.Path.{◌≡◌, refl, sym, ap, ap₂, ◌∙◌}
use lib.ListN.{length, set, take, drop, length-drop, length-map, take-append-drop}
use lib.Seq.{paste, take_all, take-append-add, drop-append-add, drop-drop}
use Rattle.ground.specs.Limits.{frame_limit}
use Rattle.ground.specs.Rows.{at, tab, joined, zeros}
use Rattle.ground.proofs.Lists.{Under, Blocks, at_from, map_at, map_tab, map_blocks, map_length, tab_part, joined_parts}
use Rattle.ground.proofs.Places.{block_at}
use Rattle.ground.proofs.Rows.{length_tab, tab_at, tab_ext, tab_row}
use Rattle.ground.proofs.Stored.{map_set, block_stored}
use Rattle.frames.specs.Meter.{Frame, no_frame, Meter, frame_at, fresh_meter, with_frame}
use Rattle.frames.specs.Meter.{counts_entered, counts_delivered, counts_dropped}
use Rattle.frames.specs.MeterTable.{entered_at, delivered_at, dropped_at, place_at, meter_words, figure_base}
use Rattle.frames.specs.MeterTable.{laid_figure, figure_from, laid_frame, frame_from, laid_meter, meter_from}

-- Each place takes four numbers.
four : (frames : List Frame) → Blocks 4 (map laid_frame frames)
four frames = map_blocks 4 laid_frame frames no_frame (λ i l. refl)

-- A meter read from numbers has all places, and what stands at one.
pub frames_length : (words : List ℕ) → length (meter_from words).frames ≡ frame_limit
unfolding meter_from
frames_length words = length_tab frame_limit (λ place. frame_from words (place_at place))

pub frame_in_table : (words : List ℕ) (place : ℕ) → place < frame_limit
    → frame_at (meter_from words) place ≡ frame_from words (place_at place)
unfolding meter_from
frame_in_table words place l = tab_at frame_limit (λ p. frame_from words (place_at p)) place no_frame l

-- A figure's two numbers make the figure.
figure_back : (figure : ℕ) → figure / figure_base * figure_base + figure % figure_base ≡ figure
figure_back figure = omega arith

module _ (meter : Meter) (all : length meter.frames ≡ frame_limit) where
  -- The numbers of the places.
  abbrev places : List ℕ
  places = joined (map laid_frame meter.frames)

  places_length : length places ≡ frame_limit * 4
  places_length = map_length 4 laid_frame meter.frames no_frame (λ i l. refl) ∙ ap (λ n. n * 4) all

  -- A meter's table has its length.
  pub length_laid_meter : length (laid_meter meter) ≡ meter_words
  unfolding laid_meter
  length_laid_meter = omega (arith, places_length)

  -- Number r of a place.
  laid_at : (place r : ℕ) → place < frame_limit → r < 4
      → at (laid_meter meter) (6 + (place * 4 + r)) ≡ at (laid_frame (frame_at meter place)) r
  unfolding laid_meter
  laid_at place r l s =
      at_from 6 (laid_meter meter) places refl (place * 4 + r) (6 + (place * 4 + r)) refl
      ∙ ap (λ xs. at xs (place * 4 + r)) (sym (append-nil places))
      ∙ block_at 4 (map laid_frame meter.frames) [] (four meter.frames) place r
      (omega (arith, length-map meter.frames laid_frame)) s
      ∙ ap (λ xs. at xs r) (map_at laid_frame meter.frames place no_frame [] (omega arith))

  -- A place reads back, and a figure.
  frame_back : (place : ℕ) → place < frame_limit → frame_from (laid_meter meter) (place_at place) ≡ frame_at meter place
  frame_back place l =
      let number : (r p : ℕ) → r < 4 → p ≡ 6 + (place * 4 + r) → at (laid_meter meter) p ≡ at (laid_frame (frame_at meter place)) r =
      λ r p s e. ap (at (laid_meter meter)) e ∙ laid_at place r l s in
      λ i. record {
        size = number 0 (place_at place) (omega arith) (omega arith) i;
        unit = number 1 (place_at place + 1) (omega arith) (omega arith) i;
        destination = number 2 (place_at place + 2) (omega arith) (omega arith) i;
        hops = number 3 (place_at place + 3) (omega arith) (omega arith) i;
      }

  entered_back : figure_from (laid_meter meter) entered_at ≡ meter.entered
  unfolding laid_meter
  entered_back = figure_back meter.entered

  delivered_back : figure_from (laid_meter meter) delivered_at ≡ meter.delivered
  unfolding laid_meter
  delivered_back = figure_back meter.delivered

  dropped_back : figure_from (laid_meter meter) dropped_at ≡ meter.dropped
  unfolding laid_meter
  dropped_back = figure_back meter.dropped

  -- A meter reads back from its table.
  pub meter_reads_back : meter_from (laid_meter meter) ≡ meter
  unfolding meter_from
  meter_reads_back =
      let frames : tab frame_limit (λ place. frame_from (laid_meter meter) (place_at place)) ≡ meter.frames =
      tab_ext frame_limit (λ place. frame_from (laid_meter meter) (place_at place)) (frame_at meter) frame_back
      ∙ tab_row frame_limit meter.frames no_frame all in
      λ i. record {
        entered = entered_back i;
        delivered = delivered_back i;
        dropped = dropped_back i;
        frames = frames i;
      }

-- The fresh meter's table holds zeros.
pub fresh_laid : laid_meter fresh_meter ≡ zeros meter_words
unfolding laid_meter fresh_meter
fresh_laid = refl

-- A list laid behind the first one of two.
paste_behind : (xs ys s : List ℕ) (k n : ℕ) → paste (xs ++ ys) (length xs + k) s n ≡ xs ++ paste ys k s n
paste_behind xs ys s k n =
    let end : length xs + k + n ≡ length xs + (k + n) = omega arith in
    rw (end, take-append-add, drop-append-add) (simp append_assoc)

module _ (words : List ℕ) (long : length words ≡ meter_words) (under : Under figure_base words) where
  -- The figures' numbers, and the places'.
  figures_lay : laid_figure (figure_from words entered_at)
      ++ laid_figure (figure_from words delivered_at)
      ++ laid_figure (figure_from words dropped_at)
      ≡ take 6 words
  figures_lay =
      (λ i. high 0 i ∷ low 0 i ∷ high 2 i ∷ low 2 i ∷ high 4 i ∷ low 4 i ∷ [])
      ∙ tab_part 0 6 words (omega arith)
    where
      high : (from : ℕ) → figure_from words from / figure_base ≡ at words from
      high from = omega (arith, under (from + 1))

      low : (from : ℕ) → figure_from words from % figure_base ≡ at words (from + 1)
      low from = omega (arith, under (from + 1))

  places_lay : joined (map laid_frame (meter_from words).frames) ≡ drop 6 words
  unfolding meter_from
  places_lay =
      ap joined (map_tab laid_frame frame_limit (λ place. frame_from words (place_at place)))
      ∙ ap joined
      (tab_ext frame_limit
      (λ place. laid_frame (frame_from words (place_at place)))
      (λ place. take 4 (drop (place * 4) (drop 6 words)))
      one)
      ∙ joined_parts 4 frame_limit (drop 6 words)
      ∙ take_all (frame_limit * 4) (drop 6 words) (omega (arith, length-drop 6 words))
    where
      one : (place : ℕ) → place < frame_limit
          → laid_frame (frame_from words (place_at place)) ≡ take 4 (drop (place * 4) (drop 6 words))
      one place l =
          ap (λ k. at words k ∷ at words (place_at place + 1) ∷ at words (place_at place + 2) ∷ at words (place_at place + 3) ∷ [])
          (sym (add-zero (place_at place)))
          ∙ tab_part (place_at place) 4 words (omega arith)
          ∙ ap (take 4) (sym (drop-drop (place * 4) 6 words))

  -- A table of its length is what its meter lays out.
  pub meter_lays_back : laid_meter (meter_from words) ≡ words
  unfolding laid_meter meter_from
  meter_lays_back = ap₂ (λ (xs ys : List ℕ). xs ++ ys) figures_lay places_lay ∙ take-append-drop 6 words

  -- Bytes counted to a figure.
  pub entered_laid : (size : ℕ)
      → paste words entered_at (laid_figure (figure_from words entered_at + size)) 2
      ≡ laid_meter (counts_entered size (meter_from words))
  unfolding laid_meter meter_from
  entered_laid size =
      ap (λ (xs : List ℕ). paste xs entered_at (laid_figure (figure_from words entered_at + size)) 2) (sym meter_lays_back)

  pub delivered_laid : (size : ℕ)
      → paste words delivered_at (laid_figure (figure_from words delivered_at + size)) 2
      ≡ laid_meter (counts_delivered size (meter_from words))
  unfolding laid_meter meter_from
  delivered_laid size =
      ap (λ (xs : List ℕ). paste xs delivered_at (laid_figure (figure_from words delivered_at + size)) 2) (sym meter_lays_back)

  pub dropped_laid : (size : ℕ)
      → paste words dropped_at (laid_figure (figure_from words dropped_at + size)) 2
      ≡ laid_meter (counts_dropped size (meter_from words))
  unfolding laid_meter meter_from
  dropped_laid size =
      ap (λ (xs : List ℕ). paste xs dropped_at (laid_figure (figure_from words dropped_at + size)) 2) (sym meter_lays_back)

  -- A frame put at a place.
  pub frame_laid : (place : ℕ) → place < frame_limit → (frame : Frame)
      → paste words (place_at place) (laid_frame frame) 4 ≡ laid_meter (with_frame (meter_from words) place frame)
  unfolding laid_meter
  frame_laid place l frame =
      ap (λ (xs : List ℕ). paste xs (place_at place) (laid_frame frame) 4) (sym meter_lays_back)
      ∙ paste_behind figures places (laid_frame frame) (place * 4) 4
      ∙ ap (λ (xs : List ℕ). figures ++ xs) stored
    where
      meter : Meter
      meter = meter_from words

      figures : List ℕ
      figures = laid_figure meter.entered ++ laid_figure meter.delivered ++ laid_figure meter.dropped

      places : List ℕ
      places = joined (map laid_frame meter.frames)

      stored : paste places (place * 4) (laid_frame frame) 4 ≡ joined (map laid_frame (set meter.frames place frame))
      stored =
          ap (λ (xs : List ℕ). paste xs (place * 4) (laid_frame frame) 4) (sym (append-nil places))
          ∙ block_stored 4 (map laid_frame meter.frames) (four meter.frames) place
          (omega (arith, length-map meter.frames laid_frame, frames_length words)) (laid_frame frame) refl []
          ∙ append-nil (joined (set (map laid_frame meter.frames) place (laid_frame frame)))
          ∙ ap joined (sym (map_set laid_frame meter.frames place frame))
