-- The invariant: the lines of the units below i are put, behind the bytes used.
use mathlib.Core.List.{List}
use mathlib.Core.Path.{◌≡◌}
use Prim.Native.Nat.{ℕ}
use lib.ListN.{length}
use Rattle.ground.specs.Rows.{tab, joined}
use Rattle.rules.specs.Network.{unit_at}
use Rattle.rules.specs.Tables.{network_from}
use Rattle.slices.proofs.Putting.{Put}
use Rattle.listing.specs.Shown.{unit_lines}
use Rattle.listing.proofs.show.Given as goal

-- The lines of a unit, and of the units below a number.
abbrev pub lines_of : (words bytes : List ℕ) (i : ℕ) → List ℕ
lines_of words bytes i = unit_lines i (unit_at (network_from words bytes) i)

abbrev pub shown_to : (words bytes : List ℕ) (i : ℕ) → List ℕ
shown_to words bytes i = joined (tab i (lines_of words bytes))

abbrev pub invariant-loop-i : goal.invariant-loop-i
invariant-loop-i l = (length l.out ≡ length l.initial.out) × Put l.initial.out l.used (shown_to l.words l.queues l.i) l.then l.out
