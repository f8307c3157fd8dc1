-- The invariant: the first i numbers are the copies', the rest zeros.
use mathlib.Core.Path.{◌≡◌}
use Rattle.ground.specs.Rows.{tab, filled}
use Rattle.recomputing.specs.Flat.{flat_length}
use Rattle.state.specs.Holding.{copy_place}
use Rattle.state.proofs.held.copies.Given as goal

abbrev pub invariant-loop-i : goal.invariant-loop-i
invariant-loop-i l = l.numbers ≡ filled flat_length (tab l.i (copy_place l.count l.table))
