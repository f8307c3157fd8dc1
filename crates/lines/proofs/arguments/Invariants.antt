-- The invariant: `count` decimals are read, and `used` bytes.
use Prim.Native.Nat.{◌≤◌, ◌-◌}
use mathlib.Core.Path.{◌≡◌}
use lib.ListN.{length}
use Rattle.lines.specs.Following.{argument_limit}
use Rattle.lines.proofs.Reading.{Read}
use Rattle.lines.proofs.arguments.Given as goal

abbrev pub invariant-loop-used : goal.invariant-loop-used
invariant-loop-used l = (l.used ≤ length l.rest) × (length l.list ≡ argument_limit) × Read l.rest l.list l.count l.used

abbrev pub decreases-loop-used : goal.decreases-loop-used
decreases-loop-used l = length l.rest - l.used
