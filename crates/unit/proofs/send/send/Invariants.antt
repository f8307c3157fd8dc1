-- The invariant: the bytes of the neighbours passed lie at the buffer's start.
use Prim.Native.Nat.{◌≤◌}
use mathlib.Core.Path.{◌≡◌}
use lib.ListN.{length}
use Rattle.std.specs.Prelude.{unwrap_or}
use Rattle.unit.proofs.AllMessages.{bytes_for}
use Rattle.unit.proofs.LaidMessages.{Laid}
use Rattle.unit.proofs.send.send.Given as goal

abbrev pub invariant-loop-k : goal.invariant-loop-k
invariant-loop-k l =
    (l.k ≤ l.count) × (length l.out ≡ length l.initial.out)
    × Laid l.k (bytes_for l.changed (unwrap_or l.new l.count) (unwrap_or l.owed l.count) l.me l.costs l.some l.whole) l.initial.out l.used l.out
