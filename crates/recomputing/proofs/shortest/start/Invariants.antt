-- The invariant: the array holds the distances passed, and zeros.
use mathlib.Core.Path.{◌≡◌}
use lib.Dec.{eqb}
use Rattle.std.specs.Prelude.{if◌then◌else◌}
use Rattle.ground.specs.Limits.{unit_limit, far}
use Rattle.ground.specs.Rows.{tab, filled}
use Rattle.recomputing.proofs.shortest.start.Given as goal

abbrev pub invariant-loop-j : goal.invariant-loop-j
invariant-loop-j l = l.distances ≡ filled unit_limit (tab l.j (λ i. if eqb i l.me then 0 else far))
