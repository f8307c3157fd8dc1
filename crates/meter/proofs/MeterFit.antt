-- When a meter's table is fit, as the code tests it; and what a fit one has.
use Prim.Native.Nat.{ℕ, ◌+◌, ◌≤◌}
use native.Mathlib.Omega.{arith}
use mathlib.Core.Bool.{Bool, true, false, ◌&&◌}
use mathlib.Core.List.{List}
use mathlib.Core.Logic.{◌≢◌, ⊎_elim}
use mathlib.Core.Path.{◌≡◌, sym, ap, ◌∙◌}
use borrow.Author.Tests.{leb-true, eqb-true, eq-eqb, ne_eqb}
use lib.Dec.{eqb, leb}
use lib.ListN.{length, get_or-eq_default}
use Rattle.ground.specs.Limits.{frame_limit, entered_limit}
use Rattle.ground.specs.Rows.{at, every}
use Rattle.ground.proofs.Lists.{parts}
use Rattle.ground.proofs.Rows.{every_at}
use Rattle.ground.proofs.Tests.{less_or_not, both}
use Rattle.rules.specs.Tables.{network_from, fit_tables}
use Rattle.frames.specs.Meter.{no_frame, frame_at, held_bytes, fit_frame, fit_meter}
use Rattle.frames.specs.MeterTable.{meter_words, meter_from, fit_table, fit_metered}
use Rattle.frames.proofs.LaidMeter.{frames_length}
use Rattle.meter.specs.Reading.{figure_in}
use Rattle.meter.specs.declared.table.Figure.TheVariants.{Entered, Delivered, Dropped, Held}
use Rattle.meter.proofs.ReadFrames.{figure_there}

module _ (n : ℕ) (meter : List ℕ) where
  -- The test of one place.
  abbrev pub fit_frame_at : ℕ → Bool
  fit_frame_at place = fit_frame n (frame_at (meter_from meter) place)

  -- A table that has another length.
  pub wrong_length : length meter ≢ meter_words → false ≡ fit_table n meter
  unfolding fit_table
  wrong_length d = sym (rw (ne_eqb (length meter) meter_words d))

  module _ (long : length meter ≡ meter_words) where
    -- A table with a place that is not fit.
    pub place_unfit : every frame_limit fit_frame_at ≡ false → false ≡ fit_table n meter
    unfolding fit_table fit_meter
    place_unfit e = sym (rw (eq-eqb (length meter) meter_words long, e))

    -- A table of which each place is fit is fit where the figures that are read add up.
    pub figures_decide : every frame_limit fit_frame_at ≡ true → {entered delivered dropped held : ℕ} {result : Bool}
        → entered ≡ figure_in Entered meter → delivered ≡ figure_in Delivered meter → dropped ≡ figure_in Dropped meter
        → held ≡ figure_in Held meter → result ≡ (leb entered entered_limit && eqb entered (delivered + dropped + held))
        → result ≡ fit_table n meter
    unfolding fit_table fit_meter
    figures_decide all a b c d e =
        e
        ∙ rw (
          eq-eqb (length meter) meter_words long,
          all,
          a ∙ figure_there meter long Entered,
          b ∙ figure_there meter long Delivered,
          c ∙ figure_there meter long Dropped,
          d ∙ figure_there meter long Held,
        )

-- What a fit table has. Past the last place nothing stands, which is fit.
pub record Fitted (n : ℕ) (meter : List ℕ) : Type 0 where
  pub long : length meter ≡ meter_words
  pub each : (place : ℕ) → fit_frame_at n meter place ≡ true
  pub few : (meter_from meter).entered ≤ entered_limit
  pub sum : (meter_from meter).entered ≡ (meter_from meter).delivered + (meter_from meter).dropped + held_bytes (meter_from meter)

-- A fit table has it.
pub fit_table_of : (n : ℕ) (meter : List ℕ) → fit_table n meter ≡ true → Fitted n meter
unfolding fit_table fit_meter fit_frame
fit_table_of n meter e =
    record {
      long = eqb-true (length meter) meter_words (search parts);
      each = λ place.
          ⊎_elim
          (λ l. every_at frame_limit (fit_frame_at n meter) (search parts) place l)
          (λ h.
          ap (fit_frame n)
          (get_or-eq_default (meter_from meter).frames no_frame {n = place} (omega (arith, frames_length meter))))
          (less_or_not place frame_limit);
      few = leb-true (meter_from meter).entered entered_limit (search parts);
      sum = eqb-true (meter_from meter).entered _ (search parts);
    }

module _ (words bytes meter : List ℕ) where
  -- A network that is not fit.
  pub network_unfit : fit_tables words bytes ≡ false → false ≡ fit_metered words bytes meter
  unfolding fit_metered
  network_unfit e = sym (rw e)

  -- Over a fit network the meter's table decides.
  pub table_decides : fit_tables words bytes ≡ true → fit_table (at words 0) meter ≡ fit_metered words bytes meter
  unfolding fit_metered network_from
  table_decides e = sym (rw e)

  module _ (fit : fit_metered words bytes meter ≡ true) where
    -- All three tables are fit: the network's are, and the meter's is.
    pub metered_network : fit_tables words bytes ≡ true
    unfolding fit_metered
    metered_network = search parts

    pub metered_table : Fitted (at words 0) meter
    unfolding fit_metered network_from
    metered_table = fit_table_of (at words 0) meter (both (fit_tables words bytes) _ fit).1
