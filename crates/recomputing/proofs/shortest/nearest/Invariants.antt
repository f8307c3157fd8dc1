-- The invariant: of the units passed, the nearest that isn't settled.
use Prim.Native.Nat.{◌<◌}
use Rattle.std.specs.Prelude.{IfSome, unwrap_or}
use Rattle.recomputing.proofs.Choosing.{Chosen}
use Rattle.recomputing.proofs.shortest.nearest.Given as goal

abbrev pub invariant-loop-j : goal.invariant-loop-j
invariant-loop-j l =
    record {
      below : IfSome l.best (λ i. i < l.count);
      chosen : Chosen l.count l.distances l.settled l.j (unwrap_or l.best l.count);
    }
