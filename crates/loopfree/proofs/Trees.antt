-- No tree has a unit further away than the empty one has it.
use Prim.Native.Nat.{ℕ, ◌-◌, ◌≤◌}
use native.Mathlib.Omega.{arith}
use mathlib.Core.List.{List}
use Rattle.ground.specs.Rows.{zeros}
use Rattle.ground.proofs.Lists.{at_zeros}
use Rattle.tree.specs.Tree.{distance}
use Rattle.tree.proofs.Rooted.{within_far}
use Rattle.tree.proofs.Tree.{distance_root, distance_none}
use Rattle.ground.proofs.Cases.{by_equal}

-- In the empty tree every unit is as far as can be.
pub zeros_furthest : (n root : ℕ) (tree : List ℕ) (j : ℕ) → distance n root tree j ≤ distance n root (zeros n) j
zeros_furthest n root tree j =
    by_equal j root
    (λ r. omega (arith, distance_root root tree (n - 1) j r))
    (λ r. omega (arith, within_far root tree (n - 1) j, distance_none root (zeros n) (n - 1) j r (at_zeros n j)))
