-- The invariant: the array holds the lesser of distance and offer at each place passed, and zeros.
use Prim.Native.Nat.{min}
use mathlib.Core.Path.{◌≡◌}
use Rattle.ground.specs.Limits.{unit_limit}
use Rattle.ground.specs.Rows.{at, tab, filled}
use Rattle.tree.specs.Tree.{plus}
use Rattle.recomputing.proofs.shortest.relax.Given as goal

abbrev pub invariant-loop-j : goal.invariant-loop-j
invariant-loop-j l = l.lower ≡ filled unit_limit (tab l.j (λ k. min (at l.distances k) (plus (at l.distances l.i) (at l.row k))))
