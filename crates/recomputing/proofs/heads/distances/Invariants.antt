-- The invariant: the array holds the distances passed, and zeros.
use mathlib.Core.Path.{◌≡◌}
use lib.ListN.{take}
use Rattle.ground.specs.Limits.{unit_limit}
use Rattle.ground.specs.Rows.{tab, filled}
use Rattle.tree.specs.Tree.{distance}
use Rattle.recomputing.proofs.heads.distances.Given as goal

abbrev pub invariant-loop-j : goal.invariant-loop-j
invariant-loop-j l = l.row ≡ filled unit_limit (tab l.j (distance l.count l.root (take l.count l.tree)))
