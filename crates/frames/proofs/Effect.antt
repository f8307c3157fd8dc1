-- What an accepted call does to a fit meter: it changes what stands at one place, and the bytes that stood there and those that
-- it brings go where its fate says.
use Prim.Native.Nat.{ℕ, suc, ◌+◌, ◌≤◌, ◌<◌}
use native.Mathlib.Nat.{add-zero, zero-add, eq-or-lt_of_le}
use native.Mathlib.Omega.{arith}
use mathlib.Core.Bool.{Bool, true, false, not, ◌&&◌}
use mathlib.Core.List.{List, ◌∷◌}
use mathlib.Core.Logic.{◌≢◌, ⊎_elim}
use mathlib.Core.Path.{◌≡◌, refl, sym, ap, ◌∙◌}
use lib.Dec.{eqb, ltb, leb}
use lib.ListN.{length, set, get_or-eq_default}
use lib.Seq.{set-get_or}
use borrow.Author.Tests.{ltb-false, eqb-true, eqb-false, eq-eqb, ne_eqb, not-false, not-true, leb-true}
use Rattle.ground.specs.Limits.{frame_limit, legal_size, hop_limit, entered_limit}
use Rattle.ground.specs.Refusal.{accepted, ◌gives◌}
use Rattle.ground.proofs.Cases.{by_test}
use Rattle.ground.proofs.Lists.{parts}
use Rattle.ground.proofs.Refusal.{gives_none, otherwise_none}
use Rattle.ground.proofs.Rows.{lowest_le, lowest_holds}
use Rattle.ground.proofs.Tests.{both, less_or_not, not_both}
use Rattle.rules.specs.Network.{Network, is_successor_in}
use Rattle.frames.specs.Meter.{Frame, no_frame, is_held, Meter, frame_at, held_bytes, held_frames, free_place, with_frame}
use Rattle.frames.specs.Meter.{counts_entered, counts_delivered, MeterCall, enters, moves, drops, Fate, as_held, as_delivered}
use Rattle.frames.specs.Meter.{as_dropped, fate, new_frame, moved_frame, settled, metered, meter_call_refusal, fit_frame}
use Rattle.frames.specs.Account.{Accepted, brought_bytes, is_about, was_held, was_delivered, was_dropped, ends_or, became_at}
use Rattle.frames.specs.Account.{became}
use Rattle.frames.proofs.Accounts.{bytes_if, no_bytes}
use Rattle.frames.proofs.FreePlaces.{none_free}

-- What a fit meter is.
pub record FitMeter (n : ℕ) (meter : Meter) : Type 0 where
  pub places : length meter.frames ≡ frame_limit
  pub fit : (place : ℕ) → place < frame_limit → fit_frame n (frame_at meter place) ≡ true
  pub low : meter.entered ≤ entered_limit
  pub sum : meter.entered ≡ meter.delivered + meter.dropped + held_bytes meter

-- An accepted call with what its answer says of its frame.
abbrev pub answered : Meter → MeterCall → Accepted
answered meter call = record { call = call; fate = fate meter call }

-- The bytes that a call about a place has to do with: those that stand there, and those that it brings.
abbrev pub handled_bytes : Meter → (place : ℕ) → MeterCall → ℕ
handled_bytes meter place call = (frame_at meter place).size + brought_bytes call

-- What an accepted call, with what its answer says of its frame, does to a meter over a network of n units.
pub record Effect (n : ℕ) (meter next : Meter) (done : Accepted) : Type 0 where
  -- The place that it changes, and what stands there then.
  pub place : ℕ
  pub frame : Frame
  pub below : place < frame_limit
  pub frames : next.frames ≡ set meter.frames place frame
  pub fit : fit_frame n frame ≡ true
  -- The bytes stand there, or are delivered, or dropped.
  pub stands : frame.size ≡ bytes_if (was_held done.fate) (handled_bytes meter place done.call)
  pub entered : next.entered ≡ meter.entered + brought_bytes done.call
  pub delivered : next.delivered
      ≡ meter.delivered + bytes_if (was_delivered done.fate) (handled_bytes meter place done.call)
  pub dropped : next.dropped ≡ meter.dropped + bytes_if (was_dropped done.fate) (handled_bytes meter place done.call)
  pub low : next.entered ≤ entered_limit
  -- It is about no other place, and one that holds a frame which it is not about is another.
  pub only : (q : ℕ) → q ≢ place → is_about q done.call ≡ false
  pub other : (q : ℕ) → is_about q done.call ≡ false → is_held (frame_at meter q) ≡ true → q ≢ place
  -- What becomes of these bytes: they are a frame's that stood there, or a frame's that enters.
  pub shares : (test : Fate → Bool) (later : List Accepted)
      → bytes_if (test (became_at place (done ∷ later))) (frame_at meter place).size
      + bytes_if (test (became done.fate later)) (brought_bytes done.call)
      ≡ bytes_if (test (ends_or done.fate (became_at place later))) (handled_bytes meter place done.call)

-- A place that holds a frame is one of the 64.
pub held_place : (meter : Meter) → length meter.frames ≡ frame_limit → (place : ℕ) → is_held (frame_at meter place) ≡ true
    → place < frame_limit
held_place meter places place held =
    ⊎_elim
    (λ l. l)
    (λ l. absurd (not_both (is_held (frame_at meter place)) held
    (ap is_held (get_or-eq_default meter.frames no_frame {n = place} (rw places l)))))
    (less_or_not place frame_limit)

-- What a held frame of a fit meter is.
pub record FitFrame (n : ℕ) (frame : Frame) : Type 0 where
  pub legal : legal_size frame.size ≡ true
  pub unit : ltb frame.unit n ≡ true
  pub destination : ltb frame.destination n ≡ true
  pub apart : eqb frame.unit frame.destination ≡ false
  pub hops : ltb frame.hops hop_limit ≡ true

-- A held frame that passes the test is.
pub fit_frame_of : (n : ℕ) (frame : Frame) → fit_frame n frame ≡ true → is_held frame ≡ true → FitFrame n frame
unfolding fit_frame
fit_frame_of n frame fit held =
    let t : legal_size frame.size && ltb frame.unit n && ltb frame.destination n
    && not (eqb frame.unit frame.destination) && ltb frame.hops hop_limit ≡ true = rw held at fit in
    record {
      legal = search parts;
      unit = search parts;
      destination = search parts;
      apart = not-true (eqb frame.unit frame.destination) (search parts);
      hops = search parts;
    }

-- A frame of a legal size is held.
pub legal_held : (frame : Frame) → legal_size frame.size ≡ true → is_held frame ≡ true
legal_held frame legal =
    ap not (ne_eqb frame.size 0 (λ e. omega (arith, leb-true 1 frame.size (both (leb 1 frame.size) _ legal).0)))

-- A frame that is all this passes the test.
pub fit-frame : (n : ℕ) (frame : Frame) → FitFrame n frame → fit_frame n frame ≡ true
unfolding fit_frame
fit-frame n frame f =
    rw (legal_held frame f.legal, f.legal, f.unit, f.destination, f.apart, f.hops)

-- A free place is fit.
pub free_fits : (n : ℕ) → fit_frame n no_frame ≡ true
unfolding fit_frame
free_fits n = refl

module _ (n : ℕ) (meter : Meter) (f : FitMeter n meter) where
  -- Calls about a frame that is held.
  module _ (place : ℕ) (held : is_held (frame_at meter place) ≡ true) (call : MeterCall) (brings : brought_bytes call ≡ 0)
      (about : (q : ℕ) → is_about q call ≡ eqb place q) where
    -- The frame's bytes.
    abbrev size : ℕ
    size = (frame_at meter place).size

    -- A call that brings none has to do with these only.
    handles : handled_bytes meter place call ≡ size
    handles = ap (λ (b : ℕ). size + b) brings ∙ add-zero size

    -- The frame's fate is this call's where it ends the frame, and else what later calls make of it.
    then_became : (end : Fate) (later : List Accepted)
        → became_at place (record { call = call; fate = end } ∷ later) ≡ ends_or end (became_at place later)
    unfolding became_at
    then_became end later = rw (about place, eq-eqb place place refl)

    -- What such a call does, by what stands there then and the bytes that it counts.
    settles : (end : Fate) (next : Meter) (now : Frame) → next.frames ≡ set meter.frames place now
        → fit_frame n now ≡ true
        → now.size ≡ bytes_if (was_held end) size
        → next.entered ≡ meter.entered
        → next.delivered ≡ meter.delivered + bytes_if (was_delivered end) size
        → next.dropped ≡ meter.dropped + bytes_if (was_dropped end) size
        → Effect n meter next (record { call = call; fate = end })
    settles end next now frames fit stands entered delivered dropped =
        record {
          place = place;
          frame = now;
          below = held_place meter f.places place held;
          frames = frames;
          fit = fit;
          stands = rw handles stands;
          entered = entered ∙ sym (ap (λ (b : ℕ). meter.entered + b) brings ∙ add-zero meter.entered);
          delivered = rw handles delivered;
          dropped = rw handles dropped;
          low = rw entered f.low;
          only = λ q d. about q ∙ ne_eqb place q (λ e. d (sym e));
          other = λ q e h same. eqb-false place q (sym (about q) ∙ e) (sym same);
          shares = λ test later.
              rw (then_became end later, handles, no_bytes (test (became end later)) (brought_bytes call) brings)
              (add-zero (bytes_if (test (ends_or end (became_at place later))) size));
        }

    -- The frame is delivered, and the place is free.
    settles_delivered : (now : Frame) → now.size ≡ size
        → Effect n meter (settled meter place now as_delivered) (record { call = call; fate = as_delivered })
    unfolding settled
    settles_delivered now same =
        settles as_delivered (settled meter place now as_delivered) no_frame refl (free_fits n) refl refl
        (ap (λ (b : ℕ). meter.delivered + b) same)
        (sym (add-zero meter.dropped))

    -- It is dropped, and the place is free.
    settles_dropped : (now : Frame) → now.size ≡ size
        → Effect n meter (settled meter place now as_dropped) (record { call = call; fate = as_dropped })
    unfolding settled
    settles_dropped now same =
        settles as_dropped (settled meter place now as_dropped) no_frame refl (free_fits n) refl refl
        (sym (add-zero meter.delivered))
        (ap (λ (b : ℕ). meter.dropped + b) same)

    -- It stands there as it is now.
    settles_held : (now : Frame) → now.size ≡ size → fit_frame n now ≡ true
        → Effect n meter (settled meter place now (as_held place)) (record { call = call; fate = as_held place })
    unfolding settled
    settles_held now same fit =
        settles (as_held place) (settled meter place now (as_held place)) now refl fit same refl
        (sym (add-zero meter.delivered))
        (sym (add-zero meter.dropped))

  -- A frame that enters, where a place is free.
  module _ (entrySize unit destination : ℕ) (room : meter.entered + entrySize ≤ entered_limit) (place : ℕ)
      (below : place < frame_limit) (free : is_held (frame_at meter place) ≡ false) where
    -- No bytes stand at a free place.
    nothing : (frame_at meter place).size ≡ 0
    nothing = eqb-true (frame_at meter place).size 0 (not-false (eqb (frame_at meter place).size 0) free)

    -- The bytes are those that enter.
    handles_entry : handled_bytes meter place (enters entrySize unit destination) ≡ entrySize
    handles_entry = omega (arith, nothing)

    -- What such a call does, by what stands there then and the bytes that it counts.
    brings_in : (end : Fate) (next : Meter) (now : Frame) → next.frames ≡ set meter.frames place now
        → fit_frame n now ≡ true
        → now.size ≡ bytes_if (was_held end) entrySize
        → next.entered ≡ meter.entered + entrySize
        → next.delivered ≡ meter.delivered + bytes_if (was_delivered end) entrySize
        → next.dropped ≡ meter.dropped + bytes_if (was_dropped end) entrySize
        → ((later : List Accepted) → became end later ≡ ends_or end (became_at place later))
        → Effect n meter next (record { call = enters entrySize unit destination; fate = end })
    unfolding became_at
    brings_in end next now frames fit stands entered delivered dropped ends =
        record {
          place = place;
          frame = now;
          below = below;
          frames = frames;
          fit = fit;
          stands = rw handles_entry stands;
          entered = entered;
          delivered = rw handles_entry delivered;
          dropped = rw handles_entry dropped;
          low = rw entered room;
          only = λ q d. refl;
          other = λ q e held same.
              not_both (is_held (frame_at meter q)) held (ap (λ (p : ℕ). is_held (frame_at meter p)) same ∙ free);
          shares = λ test later.
              rw (handles_entry, no_bytes (test (became_at place later)) (frame_at meter place).size nothing, ends later)
              (zero-add (bytes_if (test (ends_or end (became_at place later))) entrySize));
        }

    -- The frame is delivered at once, and the place stays as it is.
    enters-delivered
        : Effect n meter (counts_delivered entrySize (counts_entered entrySize meter))
        (record { call = enters entrySize unit destination; fate = as_delivered })
    unfolding became
    enters-delivered =
        brings_in as_delivered (counts_delivered entrySize (counts_entered entrySize meter)) (frame_at meter place)
        (sym (set-get_or meter.frames place no_frame))
        (f.fit place below)
        nothing refl refl
        (sym (add-zero meter.dropped))
        (λ later. refl)

    -- It stands there.
    enters_held : fit_frame n (new_frame entrySize unit destination) ≡ true
        → Effect n meter (with_frame (counts_entered entrySize meter) place (new_frame entrySize unit destination))
        (record { call = enters entrySize unit destination; fate = as_held place })
    unfolding became
    enters_held fit =
        brings_in (as_held place) (with_frame (counts_entered entrySize meter) place (new_frame entrySize unit destination))
        (new_frame entrySize unit destination) refl fit refl refl
        (sym (add-zero meter.delivered))
        (sym (add-zero meter.dropped))
        (λ later. refl)

-- Where fewer than 64 frames are held, a place is free.
free_below : (meter : Meter) → eqb (held_frames meter) frame_limit ≡ false → free_place meter < frame_limit
free_below meter few =
    ⊎_elim
    (λ e. absurd (eqb-false (free_place meter) frame_limit (sym (none_free meter) ∙ few) e))
    (λ l. l)
    (eq-or-lt_of_le (lowest_le frame_limit (λ place. not (is_held (frame_at meter place)))))

-- What is known of an accepted call.
module _ (net : Network) (meter : Meter) where
  -- A frame that may enter.
  pub record AcceptedEntry (size unit destination : ℕ) : Type 0 where
    pub unit_below : ltb unit net.count ≡ true
    pub destination_below : ltb destination net.count ≡ true
    pub place_below : free_place meter < frame_limit
    pub place_free : is_held (frame_at meter (free_place meter)) ≡ false
    pub room : meter.entered + size ≤ entered_limit
    pub legal : legal_size size ≡ true

  -- One that is not refused may.
  pub accepted_entry : (size unit destination : ℕ) → meter_call_refusal net meter (enters size unit destination) ≡ accepted
      → AcceptedEntry size unit destination
  unfolding meter_call_refusal
  accepted_entry size unit destination e =
      let units : (_ ≡ accepted) × (_ ≡ accepted) = otherwise_none (not named gives 3) _ e in
      let places : (_ ≡ accepted) × (_ ≡ accepted) = otherwise_none (full gives 14) _ units.1 in
      let bytes : (_ ≡ accepted) × (_ ≡ accepted) = otherwise_none (over gives 15) _ places.1 in
      let both-named : (ltb unit net.count ≡ true) × (ltb destination net.count ≡ true) =
      both (ltb unit net.count) (ltb destination net.count) (not-false named (gives_none (not named) 2 units.0)) in
      let below : free_place meter < frame_limit = free_below meter (gives_none full 13 places.0) in
      record {
        unit_below = both-named.0;
        destination_below = both-named.1;
        place_below = below;
        place_free = not-true (is_held (frame_at meter (free_place meter)))
            (lowest_holds frame_limit (λ place. not (is_held (frame_at meter place))) below);
        room = ltb-false entered_limit (meter.entered + size) (gives_none over 14 bytes.0);
        legal = not-false (legal_size size) (gives_none (not (legal_size size)) 15 bytes.1);
      }
    where
      named : Bool
      named = ltb unit net.count && ltb destination net.count

      full : Bool
      full = eqb (held_frames meter) frame_limit

      over : Bool
      over = ltb entered_limit (meter.entered + size)

  -- A frame that may move.
  pub record AcceptedMove (place unit : ℕ) : Type 0 where
    pub unit_below : ltb unit net.count ≡ true
    pub held : is_held (frame_at meter place) ≡ true
    pub successor : is_successor_in net (frame_at meter place).unit (frame_at meter place).destination unit ≡ true

  -- One that is not refused may.
  pub accepted_move : (place unit : ℕ) → meter_call_refusal net meter (moves place unit) ≡ accepted → AcceptedMove place unit
  unfolding meter_call_refusal
  accepted_move place unit e =
      let units : (_ ≡ accepted) × (_ ≡ accepted) = otherwise_none (not (ltb unit net.count) gives 3) _ e in
      let places : (_ ≡ accepted) × (_ ≡ accepted) = otherwise_none (not (is_held (frame_at meter place)) gives 16) _ units.1 in
      record {
        unit_below = not-false _ (gives_none (not (ltb unit net.count)) 2 units.0);
        held = not-false _ (gives_none (not (is_held (frame_at meter place))) 15 places.0);
        successor = not-false _ (gives_none (not follows) 15 places.1);
      }
    where
      follows : Bool
      follows = is_successor_in net (frame_at meter place).unit (frame_at meter place).destination unit

  -- A frame that may be dropped is held.
  pub accepted_drop : (place : ℕ) → meter_call_refusal net meter (drops place) ≡ accepted → is_held (frame_at meter place) ≡ true
  unfolding meter_call_refusal
  accepted_drop place e = not-false _ (gives_none (not (is_held (frame_at meter place))) 15 e)

-- An accepted call's effect.
module _ (net : Network) (meter : Meter) (f : FitMeter net.count meter) where
  -- Of a frame that enters.
  entry_effect : (size unit destination : ℕ) → meter_call_refusal net meter (enters size unit destination) ≡ accepted
      → Effect net.count meter (metered meter (enters size unit destination)) (answered meter (enters size unit destination))
  unfolding metered fate
  entry_effect size unit destination e =
      let known : AcceptedEntry net meter size unit destination = accepted_entry net meter size unit destination e in
      by_test (eqb unit destination)
      (λ t. rw t
      (enters-delivered net.count meter f size unit destination known.room (free_place meter) known.place_below
      known.place_free))
      (λ t. rw t
      (enters_held net.count meter f size unit destination known.room (free_place meter) known.place_below
      known.place_free
      (fit-frame net.count (new_frame size unit destination)
      (record {
        legal = known.legal;
        unit = known.unit_below;
        destination = known.destination_below;
        apart = t;
        hops = refl;
      }))))

  -- Of a frame that moves.
  move_effect : (place unit : ℕ) → meter_call_refusal net meter (moves place unit) ≡ accepted
      → Effect net.count meter (metered meter (moves place unit)) (answered meter (moves place unit))
  unfolding metered fate
  move_effect place unit e =
      let known : AcceptedMove net meter place unit = accepted_move net meter place unit e in
      let moved : Frame = moved_frame (frame_at meter place) unit in
      let was : FitFrame net.count (frame_at meter place) =
      fit_frame_of net.count (frame_at meter place)
      (f.fit place (held_place meter f.places place known.held)) known.held in
      by_test (eqb unit (frame_at meter place).destination)
      (λ t. rw t
      (settles_delivered net.count meter f place known.held (moves place unit) refl (λ q. refl) moved refl))
      (λ t. rw t
      (by_test (ltb (suc (frame_at meter place).hops) hop_limit)
      (λ h. rw h
      (settles_held net.count meter f place known.held (moves place unit) refl (λ q. refl) moved refl
      (fit-frame net.count moved
      (record {
        legal = was.legal;
        unit = known.unit_below;
        destination = was.destination;
        apart = t;
        hops = h;
      }))))
      (λ h. rw h
      (settles_dropped net.count meter f place known.held (moves place unit) refl (λ q. refl) moved refl))))

  -- Of each.
  pub effect : (call : MeterCall) → meter_call_refusal net meter call ≡ accepted
      → Effect net.count meter (metered meter call) (answered meter call)
  unfolding metered fate
  effect (enters size unit destination) e = entry_effect size unit destination e
  effect (moves place unit) e = move_effect place unit e
  effect (drops place) e =
      settles_dropped net.count meter f place (accepted_drop net meter place e) (drops place) refl (λ q. refl)
      (frame_at meter place) refl
