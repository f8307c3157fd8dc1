-- No two answers of the meter's calls have one number, as no place is as large as the number of a frame that is delivered.
use native.Mathlib.Omega.{arith}
use mathlib.Core.Path.{◌≡◌, refl, sym, ap}
use Rattle.std.specs.Prelude.{Result, Ok, Err, IfOk}
use Rattle.ground.specs.declared.refusals.Refusal.{Refusal}
use Rattle.ground.proofs.Answers.{number_once, number_below}
use Rattle.meter.specs.Fates.{fate_of, HeldInside}
use Rattle.meter.specs.declared.calls.Fate.{Fate}
use Rattle.meter.specs.declared.calls.Fate.TheVariants.{Held, Delivered, Dropped}

-- What became of two frames is the same where its number is.
held_once : (a b : Fate) → HeldInside a → HeldInside b → fate_of (Ok a) ≡ fate_of (Ok b) → a ≡ b
held_once (Held a) (Held b) p q e = ap Held (omega arith)
held_once (Held a) Delivered p q e = absurd (omega arith)
held_once (Held a) Dropped p q e = absurd (omega arith)
held_once Delivered (Held b) p q e = absurd (omega arith)
held_once Delivered Delivered p q e = refl
held_once Delivered Dropped p q e = absurd (omega arith)
held_once Dropped (Held b) p q e = absurd (omega arith)
held_once Dropped Delivered p q e = absurd (omega arith)
held_once Dropped Dropped p q e = refl

-- A refusal has no such number.
no_fate : (fate : Fate) (refusal : Refusal) → fate_of (Ok fate) ≡ fate_of (Err refusal) → ⊥
no_fate (Held place) refusal e = omega (arith, number_below refusal)
no_fate Delivered refusal e = omega (arith, number_below refusal)
no_fate Dropped refusal e = omega (arith, number_below refusal)

pub fate_once : (a b : Result Fate Refusal) → IfOk a (λ fate. HeldInside fate) → IfOk b (λ fate. HeldInside fate) → fate_of a ≡ fate_of b
    → a ≡ b
fate_once (Ok a) (Ok b) p q e = ap Ok (held_once a b p q e)
fate_once (Ok a) (Err b) p q e = absurd (no_fate a b e)
fate_once (Err a) (Ok b) p q e = absurd (no_fate b a (sym e))
fate_once (Err a) (Err b) p q e = ap Err (number_once a b e)
