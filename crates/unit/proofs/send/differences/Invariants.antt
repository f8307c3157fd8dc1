-- The invariant: the changes of the units passed are listed.
use Prim.Native.Nat.{◌≤◌}
use Rattle.unit.proofs.LaidMessages.{Listed}
use Rattle.unit.proofs.send.differences.Given as goal

abbrev pub invariant-loop-j : goal.invariant-loop-j
invariant-loop-j l = (l.j ≤ l.count) × Listed l.j l.old l.new l.number l.list
