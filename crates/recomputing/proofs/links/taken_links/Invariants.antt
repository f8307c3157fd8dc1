-- The invariant: the array holds the rows passed, and rows of zeros.
use mathlib.Core.Path.{◌≡◌}
use Rattle.ground.specs.Limits.{unit_limit}
use Rattle.ground.specs.Rows.{tab, filled_rows}
use Rattle.tree.specs.Recompute.{preferred}
use Rattle.recomputing.proofs.CopiedRows.{taken_row}
use Rattle.recomputing.proofs.links.taken_links.Given as goal

abbrev pub invariant-loop-i : goal.invariant-loop-i
invariant-loop-i l =
    l.rows ≡ filled_rows unit_limit (tab l.i (taken_row l.count l.me l.costs l.copies (preferred l.count l.costs l.through)))
