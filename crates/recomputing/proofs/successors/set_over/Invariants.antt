-- The invariant: the bit is 2 ^ k, and the set has the successors below k.
use Prim.Native.Nat.{◌^◌, ℕ}
use mathlib.Core.Bool.{Bool}
use mathlib.Core.List.{List, []}
use mathlib.Core.Path.{◌≡◌}
use lib.Dec.{ltb}
use lib.ListN.{get_or}
use Rattle.ground.specs.Rows.{at, bits}
use Rattle.recomputing.proofs.successors.set_over.Given as goal

-- Whether neighbour k is a successor for destination j.
abbrev pub is_below : (through : List (List ℕ)) (feasible : List ℕ) (j k : ℕ) → Bool
is_below through feasible j k = ltb (at (get_or through k []) j) (at feasible j)

abbrev pub invariant-loop-k : goal.invariant-loop-k
invariant-loop-k l = (l.bit ≡ 2 ^ l.k) × (l.set ≡ bits l.k (is_below l.through l.feasible l.j))
