-- The invariant: the array holds the changes read so far, and zeros.
use Prim.Native.Nat.{◌≤◌}
use mathlib.Core.Path.{◌≡◌}
use Rattle.ground.specs.Limits.{entry_limit}
use Rattle.ground.specs.Rows.{tab, filled}
use Rattle.rules.specs.Message.{change_at}
use Rattle.message.proofs.reader.changes_in.Given as goal

abbrev pub invariant-loop-i : goal.invariant-loop-i
invariant-loop-i l = (l.i ≤ l.entries) × (l.changes ≡ filled entry_limit (tab l.i (change_at l.bytes l.entries)))
