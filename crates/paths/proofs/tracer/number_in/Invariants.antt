-- The invariant: `Passed`.
use Prim.Native.Nat.{◌≤◌}
use Rattle.paths.proofs.Sets.{Passed}
use Rattle.paths.proofs.tracer.number_in.Given as goal

abbrev pub invariant-loop : goal.invariant-loop
invariant-loop l = (l.counter ≤ l.count) × Passed l.set l.counter l.rest l.number
