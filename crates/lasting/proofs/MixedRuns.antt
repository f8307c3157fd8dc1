-- Network calls and meter calls mixed, from tables of a network that calls may start from and of a meter that is fit over it:
-- both stay so, the accepted calls of the meter lead from its first state to its last, and a frame that is moved while the
-- network's tables stay as they are follows successors.
use Prim.Native.Nat.{ℕ, suc, ◌-◌, ◌≤◌, ◌<◌}
use mathlib.Core.Bool.{true, false, false≢true}
use mathlib.Core.List.{List, [], ◌∷◌}
use mathlib.Core.Path.{◌≡◌, refl, sym, ap, subst, ◌∙◌}
use borrow.Author.Tests.{eqb-true, eq-eqb, ltb-true}
use lib.Dec.{eqb, ltb}
use lib.ListN.{length}
use Rattle.ground.specs.Distinct.{Distinct}
use Rattle.ground.specs.Limits.{legal_count, hop_limit}
use Rattle.ground.specs.Refusal.{accepted}
use Rattle.ground.proofs.Cases.{by_test}
use Rattle.ground.proofs.Lists.{parts}
use Rattle.ground.proofs.Tests.{both, both_of, and_no}
use Rattle.rules.specs.Network.{Network, Call, fresh}
use Rattle.rules.specs.Tables.{network_words, network_bytes, fit_tables}
use Rattle.rules.proofs.Fit.{fit_network_of}
use Rattle.frames.specs.Account.{is_about}
use Rattle.frames.specs.Meter.{Frame, as_held, moved_frame, Meter, is_held, frame_at, fresh_meter, MeterCall, enters, moves, drops}
use Rattle.frames.specs.Meter.{fate, metered, meter_call_refusal}
use Rattle.frames.specs.MeterTable.{meter_words, meter_from, fit_table, fit_metered, meter_refusal, meter_after, fresh_meter_table}
use Rattle.frames.proofs.Effect.{FitMeter, Effect, answered, held_place, fit_frame_of, AcceptedMove, accepted_move, effect}
use Rattle.frames.proofs.LaidMeter.{meter_reads_back, length_laid_meter, frames_length}
use Rattle.frames.proofs.Metered.{fit_meter_of, fit-meter, fresh_fits, stays_fit, Leads, there_already, first_by, moved_on}
use Rattle.frames.proofs.Metered.{stays_elsewhere}
use Rattle.loopfree.specs.Conditions.{meets_conditions, has_places, is_start}
use Rattle.loopfree.specs.Reached.{run, reached, Follows, starts, hop}
use Rattle.loopfree.proofs.InvariantOfConditions.{start_holds}
use Rattle.loopfree.proofs.Kept.{keeps_run}
use Rattle.loopfree.proofs.ShapedStart.{start_fit}
use Rattle.lasting.specs.MeteredTables.{MeteredTables, meter_of, MixedCall, of_network, of_meter, refusal_in, after_mixed}
use Rattle.lasting.specs.MeteredTables.{run_mixed, accepted_of, Stays, still, metering, keeping, goes_on_by, units_met}
use Rattle.lasting.specs.MeteredTables.{fresh_metered}
use Rattle.lasting.specs.ReachedTables.{Tables, after, run_tables, fresh_tables, network_of, start_tables}
use Rattle.lasting.proofs.Demand.{tables_loop_free}
use Rattle.lasting.proofs.ReachedFit.{start_again, reached_start}
use Rattle.lasting.proofs.TablesReached.{tables_start, start_tables_fit, start_tables_hold, tables_fit, tables_hold}

module _ (t : Tables) (s : start_tables t ≡ true) (call : Call) where
  -- A network call leaves tables that calls may start from.
  start_after : start_tables (after t call) ≡ true
  unfolding run_tables is_start
  start_after =
      both_of (fit_tables (after t call).words (after t call).bytes) (meets_conditions (network_of (after t call)))
      (start_tables_fit t s (call ∷ []))
      (both (has_places (network_of (after t call))) (meets_conditions (network_of (after t call)))
      (ap is_start (start_tables_hold t s (call ∷ [])) ∙ start_again (network_of t) (tables_start t s) (call ∷ []))).1

  -- It leaves the count.
  count_after : (network_of (after t call)).count ≡ (network_of t).count
  unfolding run_tables
  count_after =
      ap (λ (net : Network). net.count) (start_tables_hold t s (call ∷ []))
      ∙ (keeps_run (network_of t).count (fit_network_of (network_of t) (start_fit (network_of t) (tables_start t s))).high
      (network_of t) (start_holds (network_of t) (tables_start t s)) (call ∷ [])).shape.counted

-- Tables that mixed calls may start from: of a network of n units, and of a meter that is fit over it.
pub record Started (n : ℕ) (t : MeteredTables) : Type 0 where
  pub start : start_tables t.network ≡ true
  pub count : (network_of t.network).count ≡ n
  pub long : length t.meter ≡ meter_words
  pub fit : FitMeter n (meter_of t)

-- They are fit, as the meter's calls test it.
pub started_fit : (n : ℕ) (t : MeteredTables) → Started n t → fit_metered t.network.words t.network.bytes t.meter ≡ true
unfolding fit_metered fit_table
started_fit n t s =
    rw (
      (both (fit_tables t.network.words t.network.bytes) (meets_conditions (network_of t.network)) s.start).0,
      s.count,
      eq-eqb (length t.meter) meter_words s.long,
      fit-meter n (meter_of t) s.fit,
    )

-- And fit tables of a network that calls may start from are such.
pub start_started : (t : MeteredTables) → start_tables t.network ≡ true
    → fit_metered t.network.words t.network.bytes t.meter ≡ true → Started (network_of t.network).count t
unfolding fit_metered fit_table
start_started t s fit =
    record {
      start = s;
      count = refl;
      long = eqb-true (length t.meter) meter_words (search parts);
      fit = fit_meter_of (network_of t.network).count (meter_of t) (frames_length t.meter) (search parts);
    }

-- A refused call of the meter leaves the tables as they are.
after_refused : (t : MeteredTables) (call : MeterCall) → eqb (refusal_in t call) accepted ≡ false → after_mixed t (of_meter call) ≡ t
unfolding after_mixed meter_after
after_refused t call e = rw e refl

module _ (n : ℕ) (t : MeteredTables) (s : Started n t) (call : MeterCall) where
  -- A call of the meter is refused as it is on the network and the meter that the tables hold.
  refusal-then : refusal_in t call ≡ meter_call_refusal (network_of t.network) (meter_of t) call
  unfolding meter_refusal
  refusal-then = rw (started_fit n t s)

  -- What an accepted call does to the meter.
  taken_effect : eqb (refusal_in t call) accepted ≡ true
      → Effect n (meter_of t) (metered (meter_of t) call) (answered (meter_of t) call)
  taken_effect e =
      subst (λ (k : ℕ). Effect k (meter_of t) (metered (meter_of t) call) (answered (meter_of t) call))
      s.count
      (effect (network_of t.network) (meter_of t) (subst (λ (k : ℕ). FitMeter k (meter_of t)) (sym s.count) s.fit) call
      (sym refusal-then ∙ eqb-true (refusal_in t call) accepted e))

  -- It leaves a fit meter.
  taken_fit : eqb (refusal_in t call) accepted ≡ true → FitMeter n (metered (meter_of t) call)
  taken_fit e =
      stays_fit n (meter_of t) (metered (meter_of t) call) (answered (meter_of t) call) s.fit
      (taken_effect e)

  -- The tables then hold that meter.
  after_taken : eqb (refusal_in t call) accepted ≡ true → meter_of (after_mixed t (of_meter call)) ≡ metered (meter_of t) call
  unfolding after_mixed meter_after
  after_taken e = rw e (meter_reads_back (metered (meter_of t) call) (taken_fit e).places)

  -- So mixed calls may go on from there.
  meter_call_started : Started n (after_mixed t (of_meter call))
  unfolding after_mixed meter_after
  meter_call_started =
      by_test (eqb (refusal_in t call) accepted)
      (λ e.
      record {
        start = s.start;
        count = s.count;
        long = rw e (length_laid_meter (metered (meter_of t) call) (taken_fit e).places);
        fit = subst (FitMeter n) (sym (after_taken e)) (taken_fit e);
      })
      (λ e. subst (Started n) (sym (after_refused t call e)) s)

-- Calls of the network and of the meter leave tables that mixed calls may start from.
call_started : (n : ℕ) (t : MeteredTables) → Started n t → (call : MixedCall) → Started n (after_mixed t call)
unfolding after_mixed
call_started n t s (of_network call) =
    record {
      start = start_after t.network s.start call;
      count = count_after t.network s.start call ∙ s.count;
      long = s.long;
      fit = s.fit;
    }
call_started n t s (of_meter call) = meter_call_started n t s call

-- So does any sequence of them.
pub run_started : (n : ℕ) (t : MeteredTables) → Started n t → (calls : List MixedCall) → Started n (run_mixed t calls)
unfolding run_mixed
run_started n t s [] = s
run_started n t s (call ∷ rest) = run_started n (after_mixed t call) (call_started n t s call) rest

-- The accepted calls lead from the first state of the meter to its last.
pub run_leads : (n : ℕ) (t : MeteredTables) → Started n t → (calls : List MixedCall)
    → Leads n (meter_of (run_mixed t calls)) (meter_of t) (accepted_of t calls)
unfolding run_mixed accepted_of after_mixed
run_leads n t s [] = there_already
run_leads n t s (of_network call ∷ rest) =
    run_leads n (after_mixed t (of_network call)) (call_started n t s (of_network call)) rest
run_leads n t s (of_meter call ∷ rest) =
    by_test (eqb (refusal_in t call) accepted)
    (λ e. rw e
    (first_by
    (subst (λ (m : Meter). Effect n (meter_of t) m (answered (meter_of t) call)) (sym (after_taken n t s call e))
    (taken_effect n t s call e))
    (run_leads n (after_mixed t (of_meter call)) (meter_call_started n t s call) rest)))
    (λ e. rw e
    (subst
    (λ (m : Meter).
    Leads n (meter_of (run_mixed (after_mixed t (of_meter call)) rest)) m (accepted_of (after_mixed t (of_meter call)) rest))
    (ap meter_of (after_refused t call e))
    (run_leads n (after_mixed t (of_meter call)) (meter_call_started n t s call) rest)))

-- A path that follows successors from a unit on.
record Met (net : Network) (destination unit : ℕ) (path : List ℕ) : Type 0 where
  rest : List ℕ
  same : path ≡ unit ∷ rest
  follows : Follows net destination (unit ∷ rest)

module _ (n : ℕ) (t : MeteredTables) (s : Started n t) (place : ℕ) (held : is_held (frame_at (meter_of t) place) ≡ true) where
  -- The frame at the place, and the network that the tables hold.
  abbrev here : Frame
  here = frame_at (meter_of t) place

  abbrev net : Network
  net = network_of t.network

  -- The frame is at a unit of the network.
  at_unit : here.unit < net.count
  at_unit =
      ltb-true here.unit net.count
      (rw s.count
      (fit_frame_of n here (s.fit.fit place (held_place (meter_of t) s.fit.places place held)) held).unit)

  -- A frame that goes nowhere meets the unit that it is at.
  meets_one : Met net here.destination here.unit (here.unit ∷ [])
  meets_one = record { rest = []; same = refl; follows = starts at_unit }

  -- What a call about the frame adds to the units that it meets from then on.
  abbrev GoesOn : MeterCall → Type 0
  GoesOn call = eqb (refusal_in t call) accepted ≡ true
      → (next : List ℕ)
      → (is_held (frame_at (meter_of (after_mixed t (of_meter call))) place) ≡ true
      → Met net (frame_at (meter_of (after_mixed t (of_meter call))) place).destination
      (frame_at (meter_of (after_mixed t (of_meter call))) place).unit next)
      → Met net here.destination here.unit (here.unit ∷ goes_on_by call (fate (meter_of t) call) next)

  -- A hop to a present successor.
  goes_on_moving : (unit : ℕ) → GoesOn (moves place unit)
  unfolding fate
  goes_on_moving unit e next later =
      by_test (eqb unit here.destination)
      (λ d. rw d ends)
      (λ d. rw d
      (by_test (ltb (suc here.hops) hop_limit)
      (λ h. rw h (onward (stands (rw (d, h) refl))))
      (λ h. rw h ends)))
    where
      known : AcceptedMove net (meter_of t) place unit
      known = accepted_move net (meter_of t) place unit
          (sym (refusal-then n t s (moves place unit)) ∙ eqb-true (refusal_in t (moves place unit)) accepted e)

      ends : Met net here.destination here.unit (here.unit ∷ unit ∷ [])
      ends =
          record {
            rest = unit ∷ [];
            same = refl;
            follows = hop at_unit known.successor (starts (ltb-true unit net.count known.unit_below));
          }

      stands : fate (meter_of t) (moves place unit) ≡ as_held place
          → frame_at (meter_of (after_mixed t (of_meter (moves place unit)))) place ≡ moved_frame here unit
      stands f =
          ap (λ (m : Meter). frame_at m place) (after_taken n t s (moves place unit) e)
          ∙ moved_on (meter_of t) place unit s.fit.places held f

      onward : frame_at (meter_of (after_mixed t (of_meter (moves place unit)))) place ≡ moved_frame here unit
          → Met net here.destination here.unit (here.unit ∷ next)
      onward f =
          let on : Met net here.destination unit next =
          subst (λ (frame : Frame). Met net frame.destination frame.unit next) f (later (ap is_held f ∙ held)) in
          record {
            rest = unit ∷ on.rest;
            same = ap (λ (path : List ℕ). here.unit ∷ path) on.same;
            follows = hop at_unit known.successor on.follows;
          }

  -- Any call about it.
  goes_on : (call : MeterCall) → is_about place call ≡ true → GoesOn call
  unfolding fate
  goes_on (enters size unit destination) about = absurd (false≢true about)
  goes_on (moves named unit) about =
      subst (λ (p : ℕ). GoesOn (moves p unit)) (sym (eqb-true named place about)) (goes_on_moving unit)
  goes_on (drops named) about = λ e next later. meets_one

  -- An accepted call about another frame leaves it as it is.
  stays_by : (call : MeterCall) → is_about place call ≡ false → eqb (refusal_in t call) accepted ≡ true
      → frame_at (meter_of (after_mixed t (of_meter call))) place ≡ here
  stays_by call other e =
      let done : Effect n (meter_of t) (metered (meter_of t) call) (answered (meter_of t) call) =
      taken_effect n t s call e in
      ap (λ (m : Meter). frame_at m place) (after_taken n t s call e)
      ∙ stays_elsewhere n (meter_of t) (metered (meter_of t) call) (answered (meter_of t) call) s.fit
      done place (done.other place other held)

-- A held frame, over calls among which the network's tables stay as they are, meets a path that follows successors.
meets : (n : ℕ) (t : MeteredTables) → Started n t → (place : ℕ) → is_held (frame_at (meter_of t) place) ≡ true
    → (later : List MixedCall) → Stays t.network later
    → Met (network_of t.network) (frame_at (meter_of t) place).destination (frame_at (meter_of t) place).unit
    (units_met t place later)
unfolding units_met after_mixed
meets n t s place held [] still = meets_one n t s place held
meets n t s place held (of_network call ∷ rest) (keeping same stays) =
    subst
    (λ (network : Tables).
    Met (network_of t.network) (frame_at (meter_of t) place).destination (frame_at (meter_of t) place).unit
    (units_met (record { network = network; meter = t.meter }) place rest))
    (sym same)
    (meets n t s place held rest stays)
meets n t s place held (of_meter call ∷ rest) (metering stays) =
    by_test (eqb (refusal_in t call) accepted)
    (λ e.
    by_test (is_about place call)
    (λ about. rw (about, e)
    (goes_on n t s place held call about e (units_met (after_mixed t (of_meter call)) place rest)
    (λ h. meets n (after_mixed t (of_meter call)) (meter_call_started n t s call) place h rest stays)))
    (λ other. rw other
    (let stands : frame_at (meter_of (after_mixed t (of_meter call))) place ≡ frame_at (meter_of t) place =
    stays_by n t s place held call other e in
    subst
    (λ (frame : Frame).
    Met (network_of t.network) frame.destination frame.unit (units_met (after_mixed t (of_meter call)) place rest))
    stands
    (meets n (after_mixed t (of_meter call)) (meter_call_started n t s call) place (ap is_held stands ∙ held) rest stays))))
    (λ e. rw (e, and_no (is_about place call))
    (subst
    (λ (x : MeteredTables).
    Met (network_of t.network) (frame_at (meter_of t) place).destination (frame_at (meter_of t) place).unit
    (units_met x place rest))
    (sym (after_refused t call e))
    (meets n t s place held rest stays)))

module _ (n : ℕ) (t : MeteredTables) (s : Started n t) (later : List MixedCall) (stays : Stays t.network later) (place : ℕ)
    (held : is_held (frame_at (meter_of t) place) ≡ true) where
  -- The units that it meets follow successors.
  met_follows : Follows (network_of t.network) (frame_at (meter_of t) place).destination (units_met t place later)
  met_follows =
      let met : Met (network_of t.network) (frame_at (meter_of t) place).destination (frame_at (meter_of t) place).unit
      (units_met t place later) = meets n t s place held later stays in
      subst (Follows (network_of t.network) (frame_at (meter_of t) place).destination) (sym met.same) met.follows

  -- It meets no unit twice.
  pub met_distinct : Distinct (units_met t place later)
  unfolding run_tables
  met_distinct =
      (tables_loop_free t.network s.start [] (frame_at (meter_of t) place).destination).distinct_units
      (units_met t place later) met_follows

  -- It makes at most as many hops as there are other units.
  pub met_few : length (units_met t place later) - 1 ≤ n - 1
  unfolding run_tables
  met_few =
      subst (λ (k : ℕ). length (units_met t place later) - 1 ≤ k - 1) s.count
      ((tables_loop_free t.network s.start [] (frame_at (meter_of t) place).destination).short
      (units_met t place later) met_follows)

-- The fresh meter's table holds it.
pub fresh-meter : (meter : List ℕ) → length meter ≡ meter_words → meter_from (fresh_meter_table meter) ≡ fresh_meter
unfolding fresh_meter_table
fresh-meter meter room = rw (eq-eqb (length meter) meter_words room) (meter_reads_back fresh_meter (fresh_fits 0).places)

-- From a fresh network and a fresh meter.
module _ (words bytes meter : List ℕ) (long : length words ≡ network_words) (wide : length bytes ≡ network_bytes)
    (room : length meter ≡ meter_words) (n : ℕ) (legal : legal_count n ≡ true) where
  -- The fresh network's tables hold it.
  fresh_network : network_of (fresh_tables words bytes n) ≡ reached n []
  unfolding run_tables
  fresh_network = tables_hold words bytes long wide n legal []

  -- Mixed calls may start from these.
  pub fresh_started : Started n (fresh_metered words bytes meter n)
  unfolding run_tables is_start run fresh fresh_meter_table
  fresh_started =
      record {
        start = both_of (fit_tables (fresh_tables words bytes n).words (fresh_tables words bytes n).bytes)
            (meets_conditions (network_of (fresh_tables words bytes n)))
            (tables_fit words bytes long wide n legal [])
            (ap meets_conditions fresh_network
            ∙ (both (has_places (reached n [])) (meets_conditions (reached n [])) (reached_start n legal [])).1);
        count = ap (λ (net : Network). net.count) fresh_network;
        long = rw (eq-eqb (length meter) meter_words room) (length_laid_meter fresh_meter (fresh_fits n).places);
        fit = subst (FitMeter n) (sym (fresh-meter meter room)) (fresh_fits n);
      }
