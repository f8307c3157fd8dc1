-- The invariant: of the neighbours passed, the least sum and the lowest number that has it.
use Prim.Native.Nat.{◌<◌}
use Rattle.std.specs.Prelude.{IfSome, unwrap_or}
use Rattle.tree.specs.Recompute.{sum_through}
use Rattle.recomputing.proofs.Scanning.{Scanned}
use Rattle.recomputing.proofs.through.preferred_for.Given as goal

abbrev pub invariant-loop-k : goal.invariant-loop-k
invariant-loop-k l =
    record {
      below : IfSome l.best (λ k. k < l.count);
      scanned : Scanned l.count (λ i. sum_through l.costs l.through i l.j) l.k l.nearest (unwrap_or l.best l.count);
    }
