-- Refusals of the meter's calls: what the test of the three tables tells, each refusal by the tests that led there, and what it
-- tells that none applies.
use Prim.Native.Nat.{ℕ, ◌+◌, ◌≤◌, ◌<◌}
use native.Mathlib.Nat.{eq-or-lt_of_le}
use native.Mathlib.Omega.{arith}
use mathlib.Core.Bool.{true, false, not, ◌&&◌}
use mathlib.Core.List.{List}
use mathlib.Core.Logic.{◌≢◌, ⊎_elim}
use mathlib.Core.Path.{◌≡◌, sym, ap, subst, ◌∙◌}
use borrow.Author.Tests.{ltb-true, eqb-false, not-false, eq-eqb, ne_eqb, lt-ltb, le-ltb}
use lib.Dec.{eqb, ltb}
use lib.ListN.{length, get_or-eq_default}
use Rattle.std.specs.Prelude.{IfOk}
use Rattle.std.specs.Option.{ok_or}
use Rattle.ground.specs.Limits.{frame_limit, hop_limit, entered_limit, legal_size}
use Rattle.ground.specs.Refusal.{accepted, ◌gives◌, ◌otherwise◌}
use Rattle.ground.specs.Rows.{at, is_in}
use Rattle.ground.proofs.Lists.{parts}
use Rattle.ground.proofs.Refusal.{gives_none, otherwise_none}
use Rattle.ground.proofs.Rows.{lowest_le}
use Rattle.ground.specs.Refused.{refused_as}
use Rattle.ground.specs.declared.refusals.Refusal.TheVariants.{Frame as NoFrame}
use Rattle.ground.proofs.Cases.{by_test}
use Rattle.ground.proofs.Tests.{not_both, less_or_not, if_true}
use Rattle.rules.specs.Network.{is_successor_in}
use Rattle.rules.specs.Tables.{network_from, fit_tables}
use Rattle.frames.specs.Meter.{Frame, no_frame, is_held, frame_at, held_frames, free_place}
use Rattle.frames.specs.Meter.{MeterCall, enters, moves, drops, meter_call_refusal, fit_frame}
use Rattle.frames.specs.MeterTable.{meter_words, figure_from, meter_from, fit_metered, meter_refusal}
use Rattle.frames.proofs.FreePlaces.{none_free}
use Rattle.frames.proofs.LaidMeter.{frames_length}
use Rattle.fitness.proofs.SuccessorSets.{Sized, fit_sized, set_at, successor_in_place}
use Rattle.meter.specs.Reading.{as_read, frame_in, held_in, start_of}
use Rattle.meter.specs.declared.table.Sum.{Sum}
use Rattle.meter.specs.declared.table.Sum.TheVariants.{Entered, Delivered, Dropped}
use Rattle.meter.proofs.AddsUp.{each_most}
use Rattle.meter.proofs.MeterFit.{Fitted, metered_network, metered_table}
use Rattle.meter.proofs.ReadFrames.{frame_there}

-- A figure within its limit and a number of 32 bits make a number of 64 bits.
pub bytes_fit : (figure size : ℕ) → figure ≤ entered_limit → size < 4294967296 → figure + size < 18446744073709551616
bytes_fit figure size h l = omega arith

-- A place that holds a frame is one of the table's.
pub held_inside : (meter : List ℕ) (place : ℕ) → is_held (frame_at (meter_from meter) place) ≡ true → place < frame_limit
held_inside meter place held =
    ⊎_elim
    (λ l. l)
    (λ l.
    let none : frame_at (meter_from meter) place ≡ no_frame =
    get_or-eq_default (meter_from meter).frames no_frame {n = place} (omega (arith, frames_length meter)) in
    absurd (not_both (is_held (frame_at (meter_from meter) place)) held (ap is_held none)))
    (less_or_not place frame_limit)

-- What a frame that is held has in a network of n units.
pub record Travelling (n : ℕ) (frame : Frame) : Type 0 where
  pub unit : frame.unit < n
  pub destination : frame.destination < n
  pub hops : frame.hops < hop_limit

-- A fit frame that is held has it.
held_travels : (n : ℕ) (frame : Frame) → fit_frame n frame ≡ true → is_held frame ≡ true → Travelling n frame
unfolding fit_frame
held_travels n frame fit held =
    let all : legal_size frame.size && ltb frame.unit n && ltb frame.destination n
    && not (eqb frame.unit frame.destination) && ltb frame.hops hop_limit ≡ true =
    sym (if_true (is_held frame) _ _ held) ∙ fit in
    record {
      unit = ltb-true frame.unit n (search parts);
      destination = ltb-true frame.destination n (search parts);
      hops = ltb-true frame.hops hop_limit (search parts);
    }

-- No figure of a fit table is above the limit.
figures_within : (words bytes meter : List ℕ) → fit_metered words bytes meter ≡ true
    → (sum : Sum) → figure_from meter (start_of sum) ≤ entered_limit
unfolding meter_from
figures_within words bytes meter fit sum = within sum
  where
    fitted : Fitted (at words 0) meter
    fitted = metered_table words bytes meter fit

    within : (sum : Sum) → figure_from meter (start_of sum) ≤ entered_limit
    within Entered = fitted.few
    within Delivered = (each_most _ _ _ fitted.few fitted.sum).0
    within Dropped = (each_most _ _ _ fitted.few fitted.sum).1

-- What fit tables of a network and its meter have: their lengths, no figure above the limit, and frames that travel.
pub record Metered (words bytes meter : List ℕ) : Type 0 where
  pub tables : fit_tables words bytes ≡ true
  pub sized : Sized words
  pub long : length meter ≡ meter_words
  pub entered : (meter_from meter).entered ≤ entered_limit
  pub within : (sum : Sum) → figure_from meter (start_of sum) ≤ entered_limit
  pub frames : (place : ℕ) → is_held (frame_at (meter_from meter) place) ≡ true
      → Travelling (at words 0) (frame_at (meter_from meter) place)

-- Tables that pass the test have it.
pub fit-metered : (words bytes meter : List ℕ) → fit_metered words bytes meter ≡ true → Metered words bytes meter
fit-metered words bytes meter fit =
    let fitted = metered_table words bytes meter fit in
    let tables = metered_network words bytes meter fit in
    record {
      tables = tables;
      sized = fit_sized words bytes tables;
      long = fitted.long;
      entered = fitted.few;
      within = figures_within words bytes meter fit;
      frames = λ place. held_travels (at words 0) (frame_at (meter_from meter) place) (fitted.each place);
    }

module _ (words bytes meter : List ℕ) where
  -- 2 is the first refusal of each call.
  pub unfit_refused : (call : MeterCall) → fit_metered words bytes meter ≡ false → 2 ≡ meter_refusal words bytes meter call
  unfolding meter_refusal
  unfit_refused call unfit = sym (rw unfit)

  -- What it tells that nothing refuses a call: the tables are fit, and the rules refuse nothing.
  none_refuses : (call : MeterCall) → meter_refusal words bytes meter call ≡ accepted
      → (fit_metered words bytes meter ≡ true) × (meter_call_refusal (network_from words bytes) (meter_from meter) call ≡ accepted)
  unfolding meter_refusal
  none_refuses call e =
      let none = otherwise_none (not (fit_metered words bytes meter) gives 2) _ e in
      (not-false (fit_metered words bytes meter) (gives_none (not (fit_metered words bytes meter)) 1 none.0), none.1)

  -- A frame that may enter: there is a free place.
  pub enters_freely : (size unit destination : ℕ) → meter_refusal words bytes meter (enters size unit destination) ≡ accepted
      → (fit_metered words bytes meter ≡ true) × (free_place (meter_from meter) < frame_limit)
  unfolding meter_call_refusal
  enters_freely size unit destination e =
      let none = none_refuses (enters size unit destination) e in
      let count = (network_from words bytes).count in
      let outside = not (ltb unit count && ltb destination count) gives 3 in
      let full = eqb (held_frames (meter_from meter)) frame_limit gives 14 in
      let last =
      ltb entered_limit ((meter_from meter).entered + size) gives 15 otherwise not (legal_size size) gives 16 in
      let rest = (otherwise_none outside (full otherwise last) none.1).1 in
      let room : eqb (held_frames (meter_from meter)) frame_limit ≡ false =
      gives_none (eqb (held_frames (meter_from meter)) frame_limit) 13 (otherwise_none full last rest).0 in
      let other : free_place (meter_from meter) ≢ frame_limit =
      eqb-false (free_place (meter_from meter)) frame_limit (sym (none_free (meter_from meter)) ∙ room) in (
        none.0,
        ⊎_elim (λ same. absurd (other same)) (λ l. l)
            (eq-or-lt_of_le (lowest_le frame_limit (λ place. not (is_held (frame_at (meter_from meter) place))))),
      )

  -- A frame that may move is held.
  pub moves_held : (place unit : ℕ) → meter_refusal words bytes meter (moves place unit) ≡ accepted
      → (fit_metered words bytes meter ≡ true) × (is_held (frame_at (meter_from meter) place) ≡ true)
  unfolding meter_call_refusal
  moves_held place unit e =
      let none = none_refuses (moves place unit) e in
      let net = network_from words bytes in
      let frame = frame_at (meter_from meter) place in
      let outside = not (ltb unit net.count) gives 3 in
      let unheld = not (is_held frame) gives 16 in
      let astray = not (is_successor_in net frame.unit frame.destination unit) gives 16 in
      let rest = (otherwise_none outside (unheld otherwise astray) none.1).1 in
      (none.0, not-false (is_held frame) (gives_none (not (is_held frame)) 15 (otherwise_none unheld astray rest).0))

  -- So is one that may be dropped.
  pub drops_held : (place : ℕ) → meter_refusal words bytes meter (drops place) ≡ accepted
      → (fit_metered words bytes meter ≡ true) × (is_held (frame_at (meter_from meter) place) ≡ true)
  unfolding meter_call_refusal
  drops_held place e =
      let none = none_refuses (drops place) e in
      let held = is_held (frame_at (meter_from meter) place) in
      (none.0, not-false held (gives_none (not held) 15 none.1))

  -- The place of a frame that may enter or move is one of the table's.
  pub entered_inside : (size unit destination : ℕ) → meter_refusal words bytes meter (enters size unit destination) ≡ accepted
      → {place : ℕ} → place ≡ free_place (meter_from meter) → place < frame_limit
  entered_inside size unit destination e found =
      subst (λ n. n < frame_limit) (sym found) (enters_freely size unit destination e).1

  pub moved_inside : (place unit : ℕ) → meter_refusal words bytes meter (moves place unit) ≡ accepted → place < frame_limit
  moved_inside place unit e = held_inside meter place (moves_held place unit e).1

  module _ (fit : fit_metered words bytes meter ≡ true) where
    -- A frame that enters, and its refusals by the tests before each.
    module _ (size unit destination : ℕ) where
      -- What refuses it.
      abbrev entering : ℕ
      entering = meter_refusal words bytes meter (enters size unit destination)

      -- 3, where there is no such unit.
      pub unit_outside : at words 0 ≤ unit → 3 ≡ entering
      unfolding meter_refusal meter_call_refusal network_from
      unit_outside h = sym (rw (fit, le-ltb unit (at words 0) h))

      module _ (inside : unit < at words 0) where
        -- 3, where there is no such destination.
        pub destination_outside : at words 0 ≤ destination → 3 ≡ entering
        unfolding meter_refusal meter_call_refusal network_from
        destination_outside h = sym (rw (fit, lt-ltb unit (at words 0) inside, le-ltb destination (at words 0) h))

        module _ (aimed : destination < at words 0) where
          -- 14, where no place is free.
          pub all_full : free_place (meter_from meter) ≡ frame_limit → 14 ≡ entering
          unfolding meter_refusal meter_call_refusal network_from
          all_full e =
              sym (rw (
                fit,
                lt-ltb unit (at words 0) inside,
                lt-ltb destination (at words 0) aimed,
                none_free (meter_from meter) ∙ eq-eqb (free_place (meter_from meter)) frame_limit e,
              ))

          module _ (room : free_place (meter_from meter) ≢ frame_limit) where
            -- Fewer than all places are held.
            not_full : eqb (held_frames (meter_from meter)) frame_limit ≡ false
            not_full = none_free (meter_from meter) ∙ ne_eqb (free_place (meter_from meter)) frame_limit room

            -- 15, where too many bytes would have entered.
            pub too_many : entered_limit < (meter_from meter).entered + size → 15 ≡ entering
            unfolding meter_refusal meter_call_refusal network_from
            too_many h =
                sym (rw (
                  fit,
                  lt-ltb unit (at words 0) inside,
                  lt-ltb destination (at words 0) aimed,
                  not_full,
                  lt-ltb entered_limit ((meter_from meter).entered + size) h,
                ))

            module _ (within : (meter_from meter).entered + size ≤ entered_limit) where
              -- 16, where no frame has that size.
              pub illegal_size : legal_size size ≡ false → 16 ≡ entering
              unfolding meter_refusal meter_call_refusal network_from
              illegal_size e =
                  sym (rw (
                    fit,
                    lt-ltb unit (at words 0) inside,
                    lt-ltb destination (at words 0) aimed,
                    not_full,
                    le-ltb entered_limit ((meter_from meter).entered + size) within,
                    e,
                  ))

              -- Else nothing.
              pub may_enter : legal_size size ≡ true → 0 ≡ entering
              unfolding meter_refusal meter_call_refusal network_from
              may_enter e =
                  sym (rw (
                    fit,
                    lt-ltb unit (at words 0) inside,
                    lt-ltb destination (at words 0) aimed,
                    not_full,
                    le-ltb entered_limit ((meter_from meter).entered + size) within,
                    e,
                  ))

    -- A frame that moves, and its refusals by the tests before each.
    module _ (place unit : ℕ) where
      -- What refuses it.
      abbrev moving : ℕ
      moving = meter_refusal words bytes meter (moves place unit)

      -- The frame at the place.
      abbrev frame : Frame
      frame = frame_at (meter_from meter) place

      -- 3, where there is no such unit.
      pub next_outside : at words 0 ≤ unit → 3 ≡ moving
      unfolding meter_refusal meter_call_refusal network_from
      next_outside h = sym (rw (fit, le-ltb unit (at words 0) h))

      module _ (inside : unit < at words 0) where
        -- The unit passes the rules' test.
        below : ltb unit (network_from words bytes).count ≡ true
        unfolding network_from
        below = lt-ltb unit (at words 0) inside

        -- 16, where the place holds no frame.
        pub moved_unheld : is_held frame ≡ false → 16 ≡ moving
        unfolding meter_refusal meter_call_refusal
        moved_unheld e = sym (rw (fit, below, e))

        module _ (held : is_held frame ≡ true) where
          -- The set in the table tells whether the unit is a successor.
          told : is_in (set_at words frame.destination frame.unit) unit
              ≡ is_successor_in (network_from words bytes) frame.unit frame.destination unit
          told =
              let all = fit-metered words bytes meter fit in
              let way = all.frames place held in
              successor_in_place words bytes all.tables frame.destination frame.unit way.destination way.unit
              unit inside

          -- 16, where the unit is no successor.
          pub no_successor : is_in (set_at words frame.destination frame.unit) unit ≡ false → 16 ≡ moving
          unfolding meter_refusal meter_call_refusal
          no_successor e = sym (rw (fit, below, held, sym told ∙ e))

          -- Else nothing.
          pub may_move : is_in (set_at words frame.destination frame.unit) unit ≡ true → 0 ≡ moving
          unfolding meter_refusal meter_call_refusal
          may_move e = sym (rw (fit, below, held, sym told ∙ e))

    -- A frame that is dropped: 16, where the place holds none; else nothing, and it is the one there.
    pub drop_told : (place : ℕ) → record {
      refusal : refused_as (ok_or (held_in meter place) NoFrame) ≡ meter_refusal words bytes meter (drops place);
      frame : IfOk (ok_or (held_in meter place) NoFrame) (λ frame. frame ≡ as_read (frame_at (meter_from meter) place));
    }
    unfolding meter_refusal meter_call_refusal
    drop_told place =
        let there = frame_there meter place (fit-metered words bytes meter fit).long in
        by_test (is_held (frame_in meter place))
        (λ held. rw held (record { refusal = sym (rw (fit, ← there, held)); frame = ap as_read there }))
        (λ free. rw free (record { refusal = sym (rw (fit, ← there, free)); frame = tt }))
