-- Single figures and places read from a meter's table and laid into it: what the code finds there is what the table's meter has.
use Prim.Native.Nat.{ℕ, ◌+◌, ◌≤◌, ◌<◌}
use native.Mathlib.Omega.{arith}
use mathlib.Core.Bool.{not}
use mathlib.Core.List.{List}
use mathlib.Core.Logic.{◌≢◌}
use mathlib.Core.Path.{◌≡◌, sym, ap, ◌∙◌}
use borrow.Author.Tests.{eq-eqb, ne_eqb}
use lib.ListN.{length, get_or-eq_default}
use lib.Seq.{paste}
use Rattle.std.specs.Prelude.{true, false, Some, None, is_some, is_none}
use Rattle.std.proofs.lemmas.Option.{none-some, cond_some}
use Rattle.ground.specs.Limits.{frame_limit}
use Rattle.ground.specs.Rows.{at, total}
use Rattle.ground.proofs.Lists.{Under}
use Rattle.ground.proofs.Cases.{by_test}
use Rattle.ground.proofs.Tests.{not_yes, if_true, if_false}
use Rattle.ground.proofs.Totals.{total_more}
use Rattle.slices.specs.Slices.{laid_over}
use Rattle.slices.proofs.Overlaid.{laid_fits}
use Rattle.frames.specs.Meter.{no_frame, is_held, frame_at, with_frame}
use Rattle.frames.specs.MeterTable.{place_at, meter_words, figure_base, laid_figure, figure_from, laid_frame, frame_from}
use Rattle.frames.specs.MeterTable.{laid_meter, meter_from}
use Rattle.frames.proofs.LaidMeter.{frames_length, frame_in_table, entered_laid, delivered_laid, dropped_laid, frame_laid}
use Rattle.meter.specs.Reading.{as_read, frame_of, frame_in, held_in, figure_of, figure_in, start_of, counts}
use Rattle.meter.specs.declared.table.Figure.{Figure}
use Rattle.meter.specs.declared.table.Frame.{Frame}
use Rattle.meter.specs.declared.table.Sum.{Sum}
use Rattle.meter.specs.declared.table.Sum.TheVariants.{Entered, Delivered, Dropped}

-- A figure begins at the fourth number or before.
pub start_low : (sum : Sum) → start_of sum ≤ 4
start_low Entered = omega arith
start_low Delivered = omega arith
start_low Dropped = omega arith

module _ (meter : List ℕ) (place : ℕ) where
  -- A table that is none has nothing at a place.
  pub no_table : length meter ≢ meter_words → no_frame ≡ frame_in meter place
  unfolding frame_in
  no_table d = sym (if_false _ _ _ (ne_eqb (length meter) meter_words d))

  module _ (long : length meter ≡ meter_words) where
    -- What is read at a place is what the table's meter has there.
    pub frame_there : frame_in meter place ≡ frame_at (meter_from meter) place
    unfolding frame_in
    frame_there = if_true _ _ _ (eq-eqb (length meter) meter_words long)

    -- There is nothing past the last place.
    pub no_place : frame_limit ≤ place → no_frame ≡ frame_in meter place
    no_place h =
        sym (frame_there
        ∙ get_or-eq_default (meter_from meter).frames no_frame {n = place} (omega (arith, frames_length meter)))

    -- So is the frame that is found there,
    pub held_there : (found : Frame) → Some found ≡ held_in meter place
        → (is_held (frame_at (meter_from meter) place) ≡ true) × (found ≡ as_read (frame_at (meter_from meter) place))
    held_there found e =
        let told = cond_some (is_held (frame_in meter place)) (as_read (frame_in meter place)) found (sym e) in
        (ap is_held (sym frame_there) ∙ told.0, sym told.1 ∙ ap as_read frame_there)

    -- and where none is found, there is none.
    pub free_there : None ≡ held_in meter place → is_held (frame_at (meter_from meter) place) ≡ false
    free_there e =
        ap is_held (sym frame_there)
        ∙ not_yes (is_held (frame_in meter place)) (λ t. none-some _ (e ∙ if_true _ _ _ t))

    -- Which of both it is.
    pub none_there : is_none (held_in meter place) ≡ not (is_held (frame_at (meter_from meter) place))
    none_there =
        by_test (is_held (frame_in meter place))
        (λ t. rw t (sym (ap (λ f. not (is_held f)) (sym frame_there) ∙ rw t)))
        (λ t. rw t (sym (ap (λ f. not (is_held f)) (sym frame_there) ∙ rw t)))

    pub found_there : is_some (held_in meter place) ≡ is_held (frame_at (meter_from meter) place)
    found_there =
        by_test (is_held (frame_in meter place))
        (λ t. rw t (sym (ap is_held (sym frame_there) ∙ t)))
        (λ t. rw t (sym (ap is_held (sym frame_there) ∙ t)))

    -- The four numbers at a place are read.
    pub frame_read : place < frame_limit → as_read (frame_from meter (place_at place)) ≡ as_read (frame_in meter place)
    frame_read h = ap as_read (sym (frame_there ∙ frame_in_table meter place h))

  -- One turn of a loop that adds up something of the sizes.
  pub total_turn : (f : ℕ → ℕ) (sum value : ℕ) → place < frame_limit
      → sum ≡ total place (λ p. f (frame_at (meter_from meter) p).size) → value ≡ f (at meter (place_at place))
      → sum + value ≡ total (place + 1) (λ p. f (frame_at (meter_from meter) p).size)
  total_turn f sum value h e q =
      omega (
        arith,
        total_more place (λ p. f (frame_at (meter_from meter) p).size),
        ap (λ frame. f frame.size) (frame_in_table meter place h),
      )

module _ (meter : List ℕ) where
  -- A table that is none has no figures.
  pub no_figure : (which : Figure) → length meter ≢ meter_words → 0 ≡ figure_in which meter
  unfolding figure_in
  no_figure which d = sym (if_false _ _ _ (ne_eqb (length meter) meter_words d))

  module _ (long : length meter ≡ meter_words) where
    -- A figure that is read is the one of the table's meter.
    pub figure_there : (which : Figure) → figure_in which meter ≡ figure_of which (meter_from meter)
    unfolding figure_in
    figure_there which = if_true _ _ _ (eq-eqb (length meter) meter_words long)

    -- So it is where the figure that is asked for is known.
    pub figure_told : (which told : Figure) (value : ℕ) → which ≡ told → value ≡ figure_of told (meter_from meter)
        → value ≡ figure_in which meter
    figure_told which told value e q =
        q ∙ sym (figure_there told) ∙ ap (λ (figure : Figure). figure_in figure meter) (sym e)

    module _ (under : Under figure_base meter) where
      -- The two numbers of a figure and more bytes, over those of the figure, count these bytes.
      counted_laid : (sum : Sum) (size : ℕ)
          → paste meter (start_of sum) (laid_figure (figure_from meter (start_of sum) + size)) 2
          ≡ laid_meter (counts sum size (meter_from meter))
      counted_laid Entered size = entered_laid meter long under size
      counted_laid Delivered size = delivered_laid meter long under size
      counted_laid Dropped size = dropped_laid meter long under size

      -- So they do where the code has found where to lay them and what.
      pub bytes_counted : (sum : Sum) (size from figure : ℕ) → from ≡ start_of sum → figure ≡ figure_from meter from + size
          → laid_over meter from (laid_figure figure) ≡ laid_meter (counts sum size (meter_from meter))
      bytes_counted sum size from figure e q =
          laid_fits meter from (laid_figure figure) (omega (arith, start_low sum))
          ∙ ap (λ (n : ℕ). paste meter from (laid_figure n) 2) q
          ∙ ap (λ (start : ℕ). paste meter start (laid_figure (figure_from meter start + size)) 2) e
          ∙ counted_laid sum size

      -- Four numbers over a place put a frame there.
      pub frame_put : (place : ℕ) → place < frame_limit → (frame : Frame)
          → laid_over meter (place_at place) (laid_frame (frame_of frame))
          ≡ laid_meter (with_frame (meter_from meter) place (frame_of frame))
      frame_put place h frame =
          laid_fits meter (place_at place) (laid_frame (frame_of frame)) (omega arith)
          ∙ frame_laid meter long under place h (frame_of frame)
