-- The invariant: none of the first i changes leaves the copy as it is.
use Prim.Native.Nat.{ℕ, ◌≤◌}
use mathlib.Core.Bool.{Bool, false}
use mathlib.Core.List.{List}
use mathlib.Core.Path.{◌≡◌}
use lib.Dec.{eqb}
use lib.ListN.{length}
use Rattle.ground.specs.Rows.{at, some}
use Rattle.rules.specs.Message.{changed_unit, body_of, entry_of}
use Rattle.unit.proofs.noting.changes_nothing.Given as goal

-- Whether change i leaves the copy as it is.
abbrev pub is_kept : (copy changes : List ℕ) (i : ℕ) → Bool
is_kept copy changes i = eqb (at copy (changed_unit (at changes i))) (entry_of (body_of (at changes i)))

abbrev pub invariant-loop-change : goal.invariant-loop-change
invariant-loop-change l = (l.change-index ≤ length l.changes) × (some l.change-index (is_kept l.copy l.changes) ≡ false)
