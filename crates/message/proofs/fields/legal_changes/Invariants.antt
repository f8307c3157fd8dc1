-- The invariant: every change passed is legal, and `lowest` is the
-- lowest unit that the next one may have.
use Prim.Native.Nat.{◌≤◌}
use mathlib.Core.Bool.{true}
use mathlib.Core.Path.{◌≡◌}
use lib.ListN.{length}
use Rattle.ground.specs.Rows.{every}
use Rattle.message.proofs.Rising.{lowest_at, legal_at}
use Rattle.message.proofs.fields.legal_changes.Given as goal

abbrev pub invariant-loop-change : goal.invariant-loop-change
invariant-loop-change l = (l.change-index ≤ length l.changes) × (every l.change-index (legal_at l.count l.sender l.changes) ≡ true) × (l.lowest ≡ lowest_at l.changes l.change-index)
