-- Rule: the number of each refusal, and the number that an answer has at the C border: "A refusal returns its number alone", and what is
-- not refused answers 100 plus a value. Code answers by `Result`; the promises speak of these numbers.
use Rattle.std.specs.Prelude.{ℕ, ◌+◌, Bool, Result, Ok, Err, eqb}
use Rattle.std.specs.Prelude.{if◌then◌else◌}
use Rattle.ground.specs.Limits.{far}
use Rattle.ground.specs.Refusal.{accepted, answer_base}
use Rattle.ground.specs.declared.refusals.Refusal.{Refusal}
use Rattle.ground.specs.declared.refusals.Refusal.TheVariants.{UnitCount, Unfit, NoUnit, Cost, LinkUp, LinkDown, Room, NoMessage, Message, NotAwaited, ChangesNothing, NotATree, QueueFull, MeterFull, TooManyBytes, Frame}

abbrev pub number_of : Refusal → ℕ
number_of UnitCount = 1
number_of Unfit = 2
number_of NoUnit = 3
number_of Cost = 4
number_of LinkUp = 5
number_of LinkDown = 6
number_of Room = 7
number_of NoMessage = 8
number_of Message = 9
number_of NotAwaited = 10
number_of ChangesNothing = 11
number_of NotATree = 12
number_of QueueFull = 13
number_of MeterFull = 14
number_of TooManyBytes = 15
number_of Frame = 16

-- The number of the refusal, 0 where there is none.
abbrev pub refused_as : {Value : Type 0} → Result Value Refusal → ℕ
refused_as (Ok value) = accepted
refused_as (Err refusal) = number_of refusal

-- The number of an answer: 100 plus the value.
abbrev pub answer_of : Result ℕ Refusal → ℕ
answer_of (Ok value) = answer_base + value
answer_of (Err refusal) = number_of refusal

-- Where there is no value, 100.
abbrev pub done_of : {Value : Type 0} → Result Value Refusal → ℕ
done_of (Ok value) = answer_base
done_of (Err refusal) = number_of refusal

-- Of a test, 101 for yes and 100 for no.
abbrev pub test_of : Result Bool Refusal → ℕ
test_of (Ok holds) = answer_base + (if holds then 1 else 0)
test_of (Err refusal) = number_of refusal

-- Of a distance, the largest number for unreachable.
abbrev pub reached_of : Result ℕ Refusal → ℕ
reached_of (Ok distance) = if eqb distance far then far else answer_base + distance
reached_of (Err refusal) = number_of refusal
