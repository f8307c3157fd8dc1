-- What became of a frame is told by the answer of a meter's call: its refusals are small, and so are the places.
use Prim.Native.Nat.{ℕ, suc, ◌+◌, ◌≤◌, ◌<◌}
use native.Mathlib.Omega.{arith}
use mathlib.Core.Bool.{not, ◌&&◌}
use mathlib.Core.List.{List}
use mathlib.Core.Logic.{⊎_elim}
use mathlib.Core.Path.{◌≡◌, refl, ap, ◌∙◌}
use borrow.Author.Tests.{eq-eqb, ne_eqb}
use lib.Dec.{eqb, ltb}
use Rattle.std.specs.Prelude.{Result, Ok, Err, IfOk, if◌then◌else◌}
use Rattle.ground.specs.Limits.{frame_limit, legal_size, hop_limit, entered_limit}
use Rattle.ground.specs.Refusal.{accepted, answer_base}
use Rattle.ground.specs.declared.refusals.Refusal.{Refusal}
use Rattle.ground.proofs.Answers.{number_below}
use Rattle.ground.proofs.Choices.{by_choice}
use Rattle.ground.proofs.Refusal.{gives_below, otherwise_below}
use Rattle.ground.proofs.Tests.{equal_or_not, if_true, if_false}
use Rattle.rules.specs.Network.{Network, is_successor_in}
use Rattle.rules.specs.Tables.{network_from}
use Rattle.frames.specs.Meter.{is_held, Meter, frame_at, held_frames, free_place}
use Rattle.frames.specs.Meter.{MeterCall, enters, moves, drops, Fate, as_held, as_delivered, as_dropped, fate, meter_call_refusal}
use Rattle.frames.specs.MeterTable.{meter_from, fit_metered, meter_refusal, fate_number, meter_answer}
use Rattle.meter.specs.Fates.{fate_of, HeldInside}
use Rattle.meter.specs.declared.calls.Fate.{Fate as Found}
use Rattle.meter.specs.declared.calls.Fate.TheVariants.{Held, Delivered, Dropped}
use Rattle.meter.proofs.OneFate.{fate_once}
use Rattle.meter.proofs.Refusals.{entered_inside, moved_inside}
use Rattle.texts.specs.Printed.{refused_line}
use Rattle.script.specs.Acting.{fate_said}
use Rattle.script.specs.Answers.{fate_text, frame_verdict}

-- A refusal of a meter's call is small.
call_small : (net : Network) (meter : Meter) (call : MeterCall) → meter_call_refusal net meter call < answer_base
unfolding meter_call_refusal
call_small net meter (enters size unit destination) =
    otherwise_below (gives_below (not (ltb unit net.count && ltb destination net.count)) 3 (omega arith))
    (otherwise_below (gives_below (eqb (held_frames meter) frame_limit) 14 (omega arith))
    (otherwise_below (gives_below (ltb entered_limit (meter.entered + size)) 15 (omega arith))
    (gives_below (not (legal_size size)) 16 (omega arith))))
call_small net meter (moves place unit) =
    let frame = frame_at meter place in
    otherwise_below (gives_below (not (ltb unit net.count)) 3 (omega arith))
    (otherwise_below (gives_below (not (is_held frame)) 16 (omega arith))
    (gives_below (not (is_successor_in net frame.unit frame.destination unit)) 16 (omega arith)))
call_small net meter (drops place) = gives_below (not (is_held (frame_at meter place))) 16 (omega arith)

refusal_small : (words bytes meter : List ℕ) (call : MeterCall) → meter_refusal words bytes meter call < answer_base
unfolding meter_refusal
refusal_small words bytes meter call =
    otherwise_below (gives_below (not (fit_metered words bytes meter)) 2 (omega arith))
    (call_small (network_from words bytes) (meter_from meter) call)

-- What became of a frame, as code has it.
abbrev as_found : Fate → Found
as_found (as_held place) = Held place
as_found as_delivered = Delivered
as_found as_dropped = Dropped

abbrev Inside : Fate → Type 0
Inside became = HeldInside (as_found became)

-- Two with one number say the same.
told : (found : Found) (became : Fate) → HeldInside found → Inside became → fate_of (Ok found) ≡ fate_number became
    → fate_said (Ok found) ≡ fate_text became
told found became p q e =
    ap fate_said (fate_once (Ok found) (Ok (as_found became)) p q (e ∙ number became)) ∙ text became
  where
    number : (became : Fate) → fate_number became ≡ fate_of (Ok (as_found became))
    number (as_held place) = refl
    number as_delivered = refl
    number as_dropped = refl

    text : (became : Fate) → fate_said (Ok (as_found became)) ≡ fate_text became
    text (as_held place) = refl
    text as_delivered = refl
    text as_dropped = refl

-- The number of what became of a frame is no refusal's.
found_high : (found : Found) → answer_base ≤ fate_of (Ok found)
found_high (Held place) = omega arith
found_high Delivered = omega arith
found_high Dropped = omega arith

became_high : (became : Fate) → answer_base ≤ fate_number became
became_high (as_held place) = omega arith
became_high as_delivered = omega arith
became_high as_dropped = omega arith

module _ (words bytes meter : List ℕ) where
  -- An accepted call that leaves its frame held leaves it at one of the places.
  became_inside : (call : MeterCall) → meter_refusal words bytes meter call ≡ accepted → Inside (fate (meter_from meter) call)
  unfolding fate
  became_inside (enters size unit destination) none =
      by_choice Inside (eqb unit destination) as_delivered (as_held (free_place (meter_from meter))) (λ t. tt)
      (λ f. entered_inside words bytes meter size unit destination none refl)
  became_inside (moves place unit) none =
      let frame = frame_at (meter_from meter) place in
      by_choice Inside (eqb unit frame.destination) as_delivered
      (if ltb (suc frame.hops) hop_limit then as_held place else as_dropped)
      (λ t. tt)
      (λ f.
      by_choice Inside (ltb (suc frame.hops) hop_limit) (as_held place) as_dropped
      (λ t. moved_inside words bytes meter place unit none)
      (λ g. tt))
  became_inside (drops place) none = tt

  -- The answer of a call says what became of its frame, or its refusal.
  pub said_fate : (call : MeterCall) (answer : Result Found Refusal) → IfOk answer (λ found. HeldInside found)
      → fate_of answer ≡ meter_answer words bytes meter call
      → fate_said answer ≡ frame_verdict words bytes meter call
  unfolding meter_answer
  said_fate call (Ok found) inside e =
      let refusal = meter_refusal words bytes meter call in
      let became = fate (meter_from meter) call in
      ⊎_elim
      (λ none.
      let free = eq-eqb refusal accepted none in
      rw free (told found became inside (became_inside call none) (e ∙ if_true _ _ _ free)))
      (λ some.
      absurd (omega (
        arith,
        found_high found,
        refusal_small words bytes meter call,
        e ∙ if_false (eqb refusal accepted) (fate_number became) refusal (ne_eqb refusal accepted some),
      )))
      (equal_or_not refusal accepted)
  said_fate call (Err reason) inside e =
      let refusal = meter_refusal words bytes meter call in
      let became = fate (meter_from meter) call in
      ⊎_elim
      (λ none.
      absurd (omega (
        arith,
        number_below reason,
        became_high became,
        e ∙ if_true (eqb refusal accepted) (fate_number became) refusal (eq-eqb refusal accepted none),
      )))
      (λ some.
      let refused = ne_eqb refusal accepted some in
      rw refused (ap refused_line (e ∙ if_false _ _ _ refused)))
      (equal_or_not refusal accepted)
