-- Answers by `Result` and their numbers: no two refusals have one number, none has that of an accepted answer, and so a number says
-- which answer it is.
use Prim.Native.Nat.{ℕ, ◌<◌}
use native.Mathlib.Omega.{arith}
use mathlib.Core.Bool.{Bool, true, false}
use mathlib.Core.Logic.{◌≢◌}
use mathlib.Core.Path.{◌≡◌, refl, sym, ap, ◌∙◌}
use lib.Dec.{eqb}
use Rattle.std.specs.Prelude.{Result, Ok, Err, if◌then◌else◌}
use Rattle.ground.specs.Refusal.{accepted, answer_base, ◌otherwise◌}
use Rattle.ground.specs.Refused.{number_of, refused_as, answer_of, done_of, test_of}
use Rattle.ground.specs.declared.refusals.Refusal.{Refusal}
use Rattle.ground.specs.declared.refusals.Refusal.TheVariants.{UnitCount, Unfit, NoUnit, Cost, LinkUp, LinkDown, Room, NoMessage, Message, NotAwaited, ChangesNothing, NotATree, QueueFull, MeterFull, TooManyBytes, Frame}
use Rattle.ground.proofs.Refusal.{first_counts}

-- The way back from a number to its refusal.
with_number : ℕ → Refusal
with_number n =
    if eqb n 1 then UnitCount
    else if eqb n 2 then Unfit
    else if eqb n 3 then NoUnit
    else if eqb n 4 then Cost
    else if eqb n 5 then LinkUp
    else if eqb n 6 then LinkDown
    else if eqb n 7 then Room
    else if eqb n 8 then NoMessage
    else if eqb n 9 then Message
    else if eqb n 10 then NotAwaited
    else if eqb n 11 then ChangesNothing
    else if eqb n 12 then NotATree
    else if eqb n 13 then QueueFull
    else if eqb n 14 then MeterFull
    else if eqb n 15 then TooManyBytes
    else Frame

back : (refusal : Refusal) → with_number (number_of refusal) ≡ refusal
unfolding with_number
back UnitCount = refl
back Unfit = refl
back NoUnit = refl
back Cost = refl
back LinkUp = refl
back LinkDown = refl
back Room = refl
back NoMessage = refl
back Message = refl
back NotAwaited = refl
back ChangesNothing = refl
back NotATree = refl
back QueueFull = refl
back MeterFull = refl
back TooManyBytes = refl
back Frame = refl

-- No two refusals have one number.
pub number_once : (a b : Refusal) → number_of a ≡ number_of b → a ≡ b
number_once a b e = sym (back a) ∙ ap with_number e ∙ back b

-- A refusal's number is not that of none, and below those of accepted answers.
pub number_some : (refusal : Refusal) → number_of refusal ≢ accepted
number_some UnitCount e = absurd (omega arith)
number_some Unfit e = absurd (omega arith)
number_some NoUnit e = absurd (omega arith)
number_some Cost e = absurd (omega arith)
number_some LinkUp e = absurd (omega arith)
number_some LinkDown e = absurd (omega arith)
number_some Room e = absurd (omega arith)
number_some NoMessage e = absurd (omega arith)
number_some Message e = absurd (omega arith)
number_some NotAwaited e = absurd (omega arith)
number_some ChangesNothing e = absurd (omega arith)
number_some NotATree e = absurd (omega arith)
number_some QueueFull e = absurd (omega arith)
number_some MeterFull e = absurd (omega arith)
number_some TooManyBytes e = absurd (omega arith)
number_some Frame e = absurd (omega arith)

pub number_below : (refusal : Refusal) → number_of refusal < answer_base
number_below UnitCount = omega arith
number_below Unfit = omega arith
number_below NoUnit = omega arith
number_below Cost = omega arith
number_below LinkUp = omega arith
number_below LinkDown = omega arith
number_below Room = omega arith
number_below NoMessage = omega arith
number_below Message = omega arith
number_below NotAwaited = omega arith
number_below ChangesNothing = omega arith
number_below NotATree = omega arith
number_below QueueFull = omega arith
number_below MeterFull = omega arith
number_below TooManyBytes = omega arith
number_below Frame = omega arith

-- A refusal that comes first counts, whatever stands behind it.
pub refusal_first : (refusal : Refusal) (a rest : ℕ) → number_of refusal ≡ a → number_of refusal ≡ (a otherwise rest)
refusal_first refusal a rest e = e ∙ sym (first_counts a rest (λ none. number_some refusal (e ∙ none)))

-- No two answers have one number.
pub refused_once : (a b : Result (Unit {0}) Refusal) → refused_as a ≡ refused_as b → a ≡ b
refused_once (Ok a) (Ok b) e = refl
refused_once (Ok a) (Err b) e = absurd (number_some b (sym e))
refused_once (Err a) (Ok b) e = absurd (number_some a e)
refused_once (Err a) (Err b) e = ap Err (number_once a b e)

pub done_once : (a b : Result (Unit {0}) Refusal) → done_of a ≡ done_of b → a ≡ b
done_once (Ok a) (Ok b) e = refl
done_once (Ok a) (Err b) e = absurd (omega (arith, number_below b))
done_once (Err a) (Ok b) e = absurd (omega (arith, number_below a))
done_once (Err a) (Err b) e = ap Err (number_once a b e)

pub answer_once : (a b : Result ℕ Refusal) → answer_of a ≡ answer_of b → a ≡ b
answer_once (Ok a) (Ok b) e = ap Ok (omega arith)
answer_once (Ok a) (Err b) e = absurd (omega (arith, number_below b))
answer_once (Err a) (Ok b) e = absurd (omega (arith, number_below a))
answer_once (Err a) (Err b) e = ap Err (number_once a b e)

pub test_once : (a b : Result Bool Refusal) → test_of a ≡ test_of b → a ≡ b
test_once (Ok true) (Ok true) e = refl
test_once (Ok true) (Ok false) e = absurd (omega arith)
test_once (Ok false) (Ok true) e = absurd (omega arith)
test_once (Ok false) (Ok false) e = refl
test_once (Ok true) (Err b) e = absurd (omega (arith, number_below b))
test_once (Ok false) (Err b) e = absurd (omega (arith, number_below b))
test_once (Err a) (Ok true) e = absurd (omega (arith, number_below a))
test_once (Err a) (Ok false) e = absurd (omega (arith, number_below a))
test_once (Err a) (Err b) e = ap Err (number_once a b e)
