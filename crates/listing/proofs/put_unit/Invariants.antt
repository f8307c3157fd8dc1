-- The invariant: the lines of the destinations below j are put.
use Prim.Native.Nat.{◌≤◌}
use mathlib.Core.Path.{◌≡◌}
use lib.ListN.{length}
use Rattle.slices.proofs.Putting.{Put}
use Rattle.listing.specs.Showing.{ways_to}
use Rattle.listing.proofs.put_unit.Given as goal

abbrev pub invariant-loop-j : goal.invariant-loop-j
invariant-loop-j l =
    (l.j ≤ l.count)
    × (length l.out ≡ length l.initial.out)
    × Put l.initial.out l.initial.then (ways_to l.unit l.i l.j) l.then l.out
