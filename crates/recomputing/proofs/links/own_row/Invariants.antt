-- The invariant: the array holds the links passed, and zeros.
use mathlib.Core.Path.{◌≡◌}
use Rattle.ground.specs.Limits.{unit_limit}
use Rattle.ground.specs.Rows.{at, tab, filled}
use Rattle.recomputing.specs.Legal.{legal_link}
use Rattle.recomputing.proofs.links.own_row.Given as goal

abbrev pub invariant-loop-j : goal.invariant-loop-j
invariant-loop-j l = l.row ≡ filled unit_limit (tab l.j (λ i. legal_link (at l.costs i)))
