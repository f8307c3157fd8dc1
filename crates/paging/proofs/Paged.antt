-- What is read of a meter's table of its length is what the meter in it has.
use Prim.Native.Nat.{ℕ}
use mathlib.Core.List.{List}
use mathlib.Core.Path.{◌≡◌, sym, ap, ◌∙◌}
use borrow.Author.Tests.{eq-eqb}
use Rattle.std.specs.Prelude.{Option, Some, None}
use lib.Dec.{eqb}
use lib.ListN.{length}
use Rattle.ground.proofs.Tests.{if_true, if_false}
use Rattle.frames.specs.Meter.{frame_at}
use Rattle.frames.specs.MeterTable.{meter_words, meter_from}
use Rattle.meter.specs.Reading.{frame_of, held_in, figure_of, figure_in}
use Rattle.meter.specs.declared.table.Figure.{Figure}
use Rattle.meter.specs.declared.table.Frame.{Frame as FrameRead}
use Rattle.meter.proofs.ReadFrames.{held_there, free_there}
use Rattle.texts.specs.Printed.{figure_line}
use Rattle.paging.specs.Page.{frame_line, place_text, found_text}

module _ (meter : List ℕ) (long : length meter ≡ meter_words) where
  -- The line of a figure that is read.
  pub figure_read : (which : Figure) (name : List ℕ) {value : ℕ} → value ≡ figure_in which meter
      → figure_line name value ≡ figure_line name (figure_of which (meter_from meter))
  unfolding figure_in
  figure_read which name e =
      ap (figure_line name) (e ∙ if_true (eqb (length meter) meter_words) _ _ (eq-eqb (length meter) meter_words long))

  -- The line of a place, by what is found there.
  pub place_found : (place : ℕ) (found : Option FrameRead) → found ≡ held_in meter place
      → found_text place found ≡ place_text place (frame_at (meter_from meter) place)
  unfolding place_text
  place_found place (Some frame) e =
      let held = held_there meter place long frame e in
      ap (λ (read : FrameRead). frame_line place (frame_of read)) held.1 ∙ sym (if_true _ _ _ held.0)
  place_found place None e = sym (if_false _ _ _ (free_there meter place long e))
