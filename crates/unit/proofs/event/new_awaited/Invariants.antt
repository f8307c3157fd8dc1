-- The invariant: the array holds the waits passed, and zeros.
use Prim.Native.Nat.{◌≤◌}
use mathlib.Core.Path.{◌≡◌}
use Rattle.std.specs.Prelude.{unwrap_or}
use Rattle.ground.specs.Limits.{unit_limit}
use Rattle.ground.specs.Rows.{filled}
use Rattle.unit.specs.Reacted.{awaited_row}
use Rattle.unit.proofs.event.new_awaited.Given as goal

abbrev pub invariant-loop-k : goal.invariant-loop-k
invariant-loop-k l = (l.k ≤ l.count) × (l.row ≡ filled unit_limit (awaited_row l.k l.costs l.awaited l.changed (unwrap_or l.new l.count)))
