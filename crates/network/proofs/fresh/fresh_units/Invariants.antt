-- The invariant: the tables of the first i fresh units are laid.
use Prim.Native.Nat.{◌≤◌}
use mathlib.Core.Path.{◌≡◌}
use lib.ListN.{length}
use Rattle.network.proofs.fresh.FreshTables.{fresh_tables}
use Rattle.network.proofs.fresh.fresh_units.Given as goal

abbrev pub invariant-loop-i : goal.invariant-loop-i
invariant-loop-i l = (l.i ≤ l.count) × (length l.words ≡ length l.initial.words) × (l.words ≡ fresh_tables l.count l.i)
