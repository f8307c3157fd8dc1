-- The invariant: the array holds the distances passed, and zeros.
use Prim.Native.Nat.{◌≤◌}
use mathlib.Core.Path.{◌≡◌}
use Rattle.ground.specs.Limits.{unit_limit}
use Rattle.ground.specs.Rows.{filled}
use Rattle.unit.specs.Reacted.{lowered_row}
use Rattle.unit.proofs.event.new_feasible.Given as goal

abbrev pub invariant-loop-j : goal.invariant-loop-j
invariant-loop-j l = (l.j ≤ l.count) × (l.row ≡ filled unit_limit (lowered_row l.j l.how l.feasible l.old l.new))
