-- Rule: the number that the answer of a meter's call has: 100 and its place where the frame is held, 200 where it is delivered, 300
-- where it is dropped, and a refusal's own.
use Rattle.std.specs.Prelude.{ℕ, ◌+◌, ◌*◌, ◌<◌, Result, Ok, Err}
use Rattle.ground.specs.Limits.{frame_limit}
use Rattle.ground.specs.Refusal.{answer_base}
use Rattle.ground.specs.Refused.{number_of}
use Rattle.ground.specs.declared.refusals.Refusal.{Refusal}
use Rattle.meter.specs.declared.calls.Fate.{Fate}
use Rattle.meter.specs.declared.calls.Fate.TheVariants.{Held, Delivered, Dropped}

abbrev pub fate_of : Result Fate Refusal → ℕ
fate_of (Ok (Held place)) = answer_base + place
fate_of (Ok Delivered) = 2 * answer_base
fate_of (Ok Dropped) = 3 * answer_base
fate_of (Err refusal) = number_of refusal

-- A frame that is held is at one of a meter's places.
abbrev pub HeldInside : Fate → Type 0
HeldInside (Held place) = place < frame_limit
HeldInside Delivered = Unit {0}
HeldInside Dropped = Unit {0}
