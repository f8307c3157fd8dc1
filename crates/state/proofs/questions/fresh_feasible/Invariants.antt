-- The invariant: the first j distances are the fresh unit's, and the rest are zeros.
use Prim.Native.Nat.{ℕ}
use mathlib.Core.Path.{◌≡◌}
use lib.Dec.{eqb}
use Rattle.std.specs.Prelude.{if◌then◌else◌}
use Rattle.ground.specs.Limits.{unit_limit, far}
use Rattle.ground.specs.Rows.{tab, filled}
use Rattle.state.proofs.questions.fresh_feasible.Given as goal

-- The fresh feasible distance to unit j.
abbrev pub distance_to : (me j : ℕ) → ℕ
distance_to me j = if eqb j me then 0 else far

abbrev pub invariant-loop-j : goal.invariant-loop-j
invariant-loop-j l = l.row ≡ filled unit_limit (tab l.j (distance_to l.me))
