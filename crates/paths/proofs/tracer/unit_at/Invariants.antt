-- The invariant: `Passed`, and at most as many were met as the place says.
use Prim.Native.Nat.{◌≤◌}
use Rattle.paths.proofs.Sets.{Passed}
use Rattle.paths.proofs.tracer.unit_at.Given as goal

abbrev pub invariant-loop-k : goal.invariant-loop-k
invariant-loop-k l = (l.k ≤ l.count) × (l.before ≤ l.place) × Passed l.set l.k l.rest l.before
