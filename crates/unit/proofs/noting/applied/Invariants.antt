-- The invariant: the changes passed are made.
use mathlib.Core.Path.{◌≡◌}
use lib.ListN.{length, take}
use Rattle.ground.specs.Limits.{unit_limit}
use Rattle.rules.specs.Message.{applied as appliedTo}
use Rattle.unit.proofs.noting.applied.Given as goal

abbrev pub invariant-loop-change : goal.invariant-loop-change
invariant-loop-change l =
    (length l.row ≡ unit_limit) × (l.row ≡ appliedTo l.fn.copy (take l.change-index l.changes))
