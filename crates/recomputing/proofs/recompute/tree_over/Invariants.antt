-- The invariant: the array holds the entries passed, and zeros.
use mathlib.Core.Path.{◌≡◌}
use Rattle.ground.specs.Limits.{unit_limit}
use Rattle.ground.specs.Rows.{tab, filled}
use Rattle.tree.proofs.ShortestTree.{entry_in}
use Rattle.recomputing.proofs.recompute.tree_over.Given as goal

abbrev pub invariant-loop-j : goal.invariant-loop-j
invariant-loop-j l = l.row ≡ filled unit_limit (tab l.j (entry_in l.count l.me l.links l.distances))
