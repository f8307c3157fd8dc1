-- The invariant: the array holds the rows passed, and rows of zeros.
use mathlib.Core.Path.{◌≡◌}
use Rattle.ground.specs.Limits.{unit_limit}
use Rattle.ground.specs.Rows.{tab, filled_rows}
use Rattle.tree.proofs.Cells.{through_cell}
use Rattle.recomputing.specs.Flat.{copies_in}
use Rattle.recomputing.proofs.through.through_neighbours.Given as goal

abbrev pub invariant-loop-k : goal.invariant-loop-k
invariant-loop-k l = l.rows ≡ filled_rows unit_limit (tab l.k (λ i. tab l.count (through_cell l.count l.costs (copies_in l.count l.copies) i)))
