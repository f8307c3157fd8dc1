-- The invariant: the first j sets are worked out, and the rest are zeros.
use mathlib.Core.Path.{◌≡◌}
use Rattle.ground.specs.Limits.{unit_limit}
use Rattle.ground.specs.Rows.{tab, filled}
use Rattle.recomputing.specs.Successors.{set_over}
use Rattle.recomputing.proofs.successors.sets_over.Given as goal

abbrev pub invariant-loop-j : goal.invariant-loop-j
invariant-loop-j l = l.sets ≡ filled unit_limit (tab l.j (set_over l.count l.through l.feasible))
