-- The invariant: the successors below k are put, and the rest is the set
-- halved k times.
use Prim.Native.Nat.{◌/◌, ◌^◌}
use mathlib.Core.Path.{◌≡◌}
use lib.ListN.{length}
use Rattle.ground.specs.Rows.{is_in}
use Rattle.texts.specs.Printed.{joined_to, is_some}
use Rattle.slices.proofs.Putting.{Put}
use Rattle.texts.proofs.row.put_joined.Given as goal

abbrev pub invariant-loop-k : goal.invariant-loop-k
invariant-loop-k l = (l.rest ≡ l.set / 2 ^ l.k)
    × (length l.out ≡ length l.initial.out)
    × Put l.initial.out l.used (joined_to l.k (is_in l.set)) l.then.used l.out
    × (l.then.some ≡ is_some (joined_to l.k (is_in l.set)))
