-- Accepted calls one after the other: a fit meter stays fit, and each of its figures grows by the bytes that the accepted calls
-- themselves tell of.
use Prim.Native.Nat.{ℕ, ◌+◌}
use native.Mathlib.Nat.{add-zero, zero-add}
use native.Mathlib.Omega.{arith}
use mathlib.Core.Bool.{Bool, true, false}
use mathlib.Core.List.{List, [], ◌∷◌}
use mathlib.Core.Logic.{◌≢◌}
use mathlib.Core.Path.{◌≡◌, refl, sym, ap, ◌∙◌}
use lib.ListN.{length, get_or, length-set}
use lib.Seq.{get_or-set_same, get_or-set_other}
use borrow.Author.Tests.{eqb-true, eq-eqb, leb-true, le-leb}
use Rattle.ground.specs.Limits.{frame_limit, entered_limit}
use Rattle.ground.specs.Refusal.{accepted}
use Rattle.ground.specs.Rows.{total}
use Rattle.ground.proofs.Cases.{by_equal}
use Rattle.ground.proofs.Lists.{parts}
use Rattle.ground.proofs.Rows.{length_tab, tab_at, every_at, every_of}
use Rattle.ground.proofs.Tests.{both_of}
use Rattle.ground.proofs.Totals.{total_ext, total_none, total_change}
use Rattle.rules.specs.Network.{Network}
use Rattle.frames.specs.Meter.{Frame, no_frame, Meter, frame_at, held_bytes, fresh_meter, Fate, as_held, as_delivered}
use Rattle.frames.specs.Meter.{as_dropped, is_held, MeterCall, moves, fate, moved_frame, settled, metered, meter_call_refusal}
use Rattle.frames.specs.Meter.{fit_frame, fit_meter}
use Rattle.frames.specs.Account.{Accepted, brought_bytes, was_held, was_delivered, was_dropped, ends_or, became_at, became}
use Rattle.frames.specs.Account.{bytes_that, bytes_entered, bytes_delivered, bytes_dropped, bytes_held}
use Rattle.frames.proofs.Accounts.{bytes_if, no_bytes, one_fate, sums_add_up}
use Rattle.frames.proofs.Effect.{FitMeter, Effect, handled_bytes, answered, held_place, free_fits, effect}

module _ (n : ℕ) (meter : Meter) where
  -- A meter with all places that passes the test is fit.
  pub fit_meter_of : length meter.frames ≡ frame_limit → fit_meter n meter ≡ true → FitMeter n meter
  unfolding fit_meter
  fit_meter_of places fit =
      record {
        places = places;
        fit = every_at frame_limit (λ place. fit_frame n (frame_at meter place)) (search parts);
        low = leb-true meter.entered entered_limit (search parts);
        sum = eqb-true meter.entered (meter.delivered + meter.dropped + held_bytes meter) (search parts);
      }

  -- A fit meter passes it.
  pub fit-meter : FitMeter n meter → fit_meter n meter ≡ true
  unfolding fit_meter
  fit-meter f =
      both_of _ _
      (both_of _ _ (every_of frame_limit (λ place. fit_frame n (frame_at meter place)) f.fit)
      (le-leb meter.entered entered_limit f.low))
      (eq-eqb meter.entered (meter.delivered + meter.dropped + held_bytes meter) f.sum)

-- The fresh meter is fit, whatever the count.
pub fresh_fits : (n : ℕ) → FitMeter n fresh_meter
unfolding fresh_meter
fresh_fits n =
    record {
      places = length_tab frame_limit (λ place. no_frame);
      fit = λ place l. rw (tab_at frame_limit (λ place. no_frame) place no_frame l) (free_fits n);
      low = omega arith;
      sum = sym (total_none frame_limit (λ place. (frame_at fresh_meter place).size)
          (λ place l. ap (λ (frame : Frame). frame.size) (tab_at frame_limit (λ place. no_frame) place no_frame l)));
    }

module _ (n : ℕ) (meter next : Meter) (done : Accepted) (f : FitMeter n meter) (effect : Effect n meter next done) where
  -- At the place that a call changes stands what its effect says.
  pub stands_there : frame_at next effect.place ≡ effect.frame
  stands_there =
      ap (λ (frames : List Frame). get_or frames effect.place no_frame) effect.frames
      ∙ get_or-set_same meter.frames effect.place effect.frame no_frame (rw f.places effect.below)

  -- At any other stands what stood there.
  pub stays_elsewhere : (q : ℕ) → q ≢ effect.place → frame_at next q ≡ frame_at meter q
  stays_elsewhere q d =
      ap (λ (frames : List Frame). get_or frames q no_frame) effect.frames
      ∙ get_or-set_other meter.frames effect.place q effect.frame no_frame d

  -- The bytes that the call has to do with.
  abbrev handled : ℕ
  handled = handled_bytes meter effect.place done.call

  -- They stand there where the frame is held.
  there : (frame_at next effect.place).size ≡ bytes_if (was_held done.fate) handled
  there = ap (λ (frame : Frame). frame.size) stands_there ∙ effect.stands

  -- The bytes held change by those of the place.
  held_change : held_bytes next + (frame_at meter effect.place).size ≡ held_bytes meter + bytes_if (was_held done.fate) handled
  held_change =
      total_change frame_limit (λ q. (frame_at next q).size) (λ q. (frame_at meter q).size) effect.place effect.below
      (λ q l d. ap (λ (frame : Frame). frame.size) (stays_elsewhere q d))
      ∙ ap (λ (b : ℕ). held_bytes meter + b) there

  -- An accepted call keeps a fit meter fit.
  pub stays_fit : FitMeter n next
  stays_fit =
      record {
        places = ap length effect.frames ∙ length-set meter.frames effect.place effect.frame ∙ f.places;
        fit = λ q l.
            by_equal q effect.place
            (λ e. ap (λ (p : ℕ). fit_frame n (frame_at next p)) e ∙ ap (fit_frame n) stands_there ∙ effect.fit)
            (λ d. ap (fit_frame n) (stays_elsewhere q d) ∙ f.fit q l);
        low = effect.low;
        sum = adds (held_bytes meter) (held_bytes next) held_change f.sum;
      }
    where
      adds : (held then-held : ℕ)
          → then-held + (frame_at meter effect.place).size ≡ held + bytes_if (was_held done.fate) handled
          → meter.entered ≡ meter.delivered + meter.dropped + held
          → next.entered ≡ next.delivered + next.dropped + then-held
      adds held then-held changes sum =
          omega (arith, one_fate done.fate handled, effect.entered, effect.delivered, effect.dropped)

-- Accepted calls that lead from a meter to another, one after the other.
pub data Leads (n : ℕ) (end : Meter) : Meter → List Accepted → Type 0 where
  there_already : Leads n end end []
  first_by : {meter next : Meter} {done : Accepted} {later : List Accepted} → Effect n meter next done
      → Leads n end next later → Leads n end meter (done ∷ later)

-- The bytes of the frames held, at each place those of a frame that comes by later calls to what is asked for.
abbrev pending_at : (test : Fate → Bool) → Meter → (later : List Accepted) (place : ℕ) → ℕ
pending_at test meter later place = bytes_if (test (became_at place later)) (frame_at meter place).size

unfoldable pub pending : (test : Fate → Bool) → Meter → (later : List Accepted) → ℕ
pending test meter later = total frame_limit (pending_at test meter later)

-- The bytes of a frame that a call ends with a fate that is asked for.
abbrev pub ended_bytes : (test : Fate → Bool) → Fate → (bytes : ℕ) → ℕ
ended_bytes test (as_held place) bytes = 0
ended_bytes test as_delivered bytes = bytes_if (test as_delivered) bytes
ended_bytes test as_dropped bytes = bytes_if (test as_dropped) bytes

-- A figure that grows by the bytes of each such frame.
abbrev pub Grows : (n : ℕ) (test : Fate → Bool) (figure : Meter → ℕ) → Type 0
Grows n test figure = (meter next : Meter) (done : Accepted) (effect : Effect n meter next done)
    → figure next ≡ figure meter + ended_bytes test done.fate (handled_bytes meter effect.place done.call)

-- A test that no held frame passes is asked of frames that are ended only.
asks_ended : (test : Fate → Bool) → ((place : ℕ) → test (as_held place) ≡ false) → (fate : Fate) (bytes : ℕ)
    → bytes_if (test fate) bytes ≡ ended_bytes test fate bytes
asks_ended test never (as_held place) bytes = ap (λ (b : Bool). bytes_if b bytes) (never place)
asks_ended test never as_delivered bytes = refl
asks_ended test never as_dropped bytes = refl

-- The bytes delivered are such a figure.
pub delivered_grows : (n : ℕ) → Grows n was_delivered (λ meter. meter.delivered)
delivered_grows n meter next done effect =
    effect.delivered
    ∙ ap (λ (b : ℕ). meter.delivered + b) (asks_ended was_delivered (λ place. refl) done.fate _)

-- So are the bytes dropped.
pub dropped_grows : (n : ℕ) → Grows n was_dropped (λ meter. meter.dropped)
dropped_grows n meter next done effect =
    effect.dropped
    ∙ ap (λ (b : ℕ). meter.dropped + b) (asks_ended was_dropped (λ place. refl) done.fate _)

-- For frames that are held it is a figure that never grows: no call ends them so.
pub nothing_grows : (n : ℕ) → Grows n was_held (λ meter. 0)
nothing_grows n meter next done effect = go done.fate _
  where
    go : (fate : Fate) (bytes : ℕ) → 0 ≡ 0 + ended_bytes was_held fate bytes
    go (as_held place) bytes = refl
    go as_delivered bytes = refl
    go as_dropped bytes = refl

-- The bytes that a call has to do with are ended by it, or stand at the place for later calls.
ended_or_pending : (test : Fate → Bool) (fate next : Fate) (bytes : ℕ)
    → ended_bytes test fate bytes + bytes_if (test next) (bytes_if (was_held fate) bytes)
    ≡ bytes_if (test (ends_or fate next)) bytes
ended_or_pending test (as_held place) next bytes = omega arith
ended_or_pending test as_delivered next bytes = omega (arith, no_bytes (test next) 0 refl)
ended_or_pending test as_dropped next bytes = omega (arith, no_bytes (test next) 0 refl)

module _ (n : ℕ) (test : Fate → Bool) (meter next : Meter) (done : Accepted) (f : FitMeter n meter)
    (effect : Effect n meter next done) (later : List Accepted) where
  -- What later calls make of the frames at other places.
  pending_elsewhere : (q : ℕ) → q ≢ effect.place → pending_at test next later q ≡ pending_at test meter (done ∷ later) q
  unfolding became_at
  pending_elsewhere q d =
      rw (effect.only q d)
      (ap (λ (frame : Frame). bytes_if (test (became_at q later)) frame.size) (stays_elsewhere n meter next done f effect q d))

  -- What one call changes of the bytes that are still to come to what is asked for.
  pending_change : ended_bytes test done.fate (handled_bytes meter effect.place done.call) + pending test next later
      ≡ pending test meter (done ∷ later) + bytes_if (test (became done.fate later)) (brought_bytes done.call)
  unfolding pending
  pending_change =
      adds (pending test next later) (pending test meter (done ∷ later))
      (total_change frame_limit (pending_at test next later) (pending_at test meter (done ∷ later)) effect.place
      effect.below (λ q l d. pending_elsewhere q d))
    where
      here : pending_at test next later effect.place
          ≡ bytes_if (test (became_at effect.place later))
          (bytes_if (was_held done.fate) (handled_bytes meter effect.place done.call))
      here = ap (λ (b : ℕ). bytes_if (test (became_at effect.place later)) b) (there n meter next done f effect)

      adds : (after before : ℕ)
          → after + pending_at test meter (done ∷ later) effect.place
          ≡ before + pending_at test next later effect.place
          → ended_bytes test done.fate (handled_bytes meter effect.place done.call) + after
          ≡ before + bytes_if (test (became done.fate later)) (brought_bytes done.call)
      adds after before e =
          omega (
            arith,
            here,
            effect.shares test later,
            ended_or_pending test done.fate (became_at effect.place later) (handled_bytes meter effect.place done.call),
          )

-- From any fit meter: what a figure comes to, with what is then still pending, is what it was, with what was pending and the
-- bytes that entered.
pub comes_to : (n : ℕ) (test : Fate → Bool) (figure : Meter → ℕ) → Grows n test figure → (start end : Meter)
    (done : List Accepted) → FitMeter n start → Leads n end start done
    → figure end + pending test end [] ≡ figure start + pending test start done + bytes_that test done
unfolding bytes_that
comes_to n test figure grows start end [] f there_already = sym (add-zero (figure start + pending test start []))
comes_to n test figure grows start end (done ∷ later) f (first_by {next = next} effect leads) =
    omega (
      arith,
      comes_to n test figure grows next end later (stays_fit n start next done f effect) leads,
      grows start next done effect,
      pending_change n test start next done f effect later,
    )

-- The meter that accepted calls lead to is fit.
pub leads_fit : (n : ℕ) (start end : Meter) (done : List Accepted) → FitMeter n start → Leads n end start done → FitMeter n end
leads_fit n start end [] f there_already = f
leads_fit n start end (done ∷ later) f (first_by {next = next} effect leads) =
    leads_fit n next end later (stays_fit n start next done f effect) leads

-- The fresh meter holds no bytes that could come to anything.
pending_fresh : (test : Fate → Bool) (later : List Accepted) → pending test fresh_meter later ≡ 0
unfolding pending fresh_meter
pending_fresh test later =
    total_none frame_limit (pending_at test fresh_meter later)
    (λ place l. no_bytes (test (became_at place later)) (frame_at fresh_meter place).size
    (ap (λ (frame : Frame). frame.size) (tab_at frame_limit (λ place. no_frame) place no_frame l)))

-- Without later calls every frame is held, so none comes to another fate.
pending_never : (test : Fate → Bool) → ((place : ℕ) → test (as_held place) ≡ false) → (meter : Meter) → pending test meter [] ≡ 0
unfolding pending became_at
pending_never test never meter =
    total_none frame_limit (pending_at test meter [])
    (λ place l. ap (λ (b : Bool). bytes_if b (frame_at meter place).size) (never place))

-- And what comes to be held are the meter's bytes held.
pending_held : (meter : Meter) → pending was_held meter [] ≡ held_bytes meter
unfolding pending became_at
pending_held meter = total_ext frame_limit (pending_at was_held meter []) (λ place. (frame_at meter place).size) (λ place l. refl)

-- From the fresh meter: "each figure defined from the accepted calls".
module _ (n : ℕ) (end : Meter) (done : List Accepted) (leads : Leads n end fresh_meter done) where
  -- A figure that was 0 is the sum of the bytes that came to what is asked for, but for what is still held.
  from_fresh : (test : Fate → Bool) (figure : Meter → ℕ) → Grows n test figure → figure fresh_meter ≡ 0
      → figure end + pending test end [] ≡ bytes_that test done
  from_fresh test figure grows none =
      omega (arith, comes_to n test figure grows fresh_meter end done (fresh_fits n) leads, pending_fresh test done)

  -- The bytes delivered.
  pub delivered_is : end.delivered ≡ bytes_delivered done
  unfolding fresh_meter
  delivered_is =
      omega (
        arith,
        from_fresh was_delivered (λ meter. meter.delivered) (delivered_grows n) refl,
        pending_never was_delivered (λ place. refl) end,
      )

  -- The bytes dropped.
  pub dropped_is : end.dropped ≡ bytes_dropped done
  unfolding fresh_meter
  dropped_is =
      omega (
        arith,
        from_fresh was_dropped (λ meter. meter.dropped) (dropped_grows n) refl,
        pending_never was_dropped (λ place. refl) end,
      )

  -- The bytes held.
  pub held_is : held_bytes end ≡ bytes_held done
  held_is =
      sym (pending_held end)
      ∙ sym (zero-add (pending was_held end []))
      ∙ from_fresh was_held (λ meter. 0) (nothing_grows n) refl

  -- The meter is fit, so its figures add up.
  pub adds_up : end.entered ≡ end.delivered + end.dropped + held_bytes end
  adds_up = (leads_fit n fresh_meter end done (fresh_fits n) leads).sum

  -- So do the sums, and the bytes entered are theirs.
  pub entered_is : end.entered ≡ bytes_entered done
  entered_is = sums (held_bytes end) held_is adds_up
    where
      sums : (held : ℕ) → held ≡ bytes_held done → end.entered ≡ end.delivered + end.dropped + held
          → end.entered ≡ bytes_entered done
      sums held h e = omega (arith, delivered_is, dropped_is, sums_add_up done)

-- An accepted call keeps a fit meter fit, as the tests say it.
pub metered_fits : (net : Network) (meter : Meter) → length meter.frames ≡ frame_limit → fit_meter net.count meter ≡ true
    → (call : MeterCall) → meter_call_refusal net meter call ≡ accepted
    → (length (metered meter call).frames ≡ frame_limit) × (fit_meter net.count (metered meter call) ≡ true)
metered_fits net meter places fit call taken =
    let f : FitMeter net.count meter = fit_meter_of net.count meter places fit in
    let then_fit : FitMeter net.count (metered meter call) =
    stays_fit net.count meter (metered meter call) (answered meter call) f
    (effect net meter f call taken) in
    (then_fit.places, fit-meter net.count (metered meter call) then_fit)

-- A frame that moves and is still held stands at its place with its new unit.
pub moved_on : (meter : Meter) (place unit : ℕ) → length meter.frames ≡ frame_limit → is_held (frame_at meter place) ≡ true
    → fate meter (moves place unit) ≡ as_held place
    → frame_at (metered meter (moves place unit)) place ≡ moved_frame (frame_at meter place) unit
unfolding metered settled
moved_on meter place unit places held e =
    rw e
    (get_or-set_same meter.frames place (moved_frame (frame_at meter place) unit) no_frame
    (rw places (held_place meter places place held)))
