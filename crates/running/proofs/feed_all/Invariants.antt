-- `running::feed_all` is safe and ends: from turn to turn the chunk lies within `input`.
use Prim.Native.Nat.{◌≤◌}
use lib.ListN.{length}
use Rattle.running.proofs.feed_all.Given as goal

abbrev pub invariant-loop : goal.invariant-loop
invariant-loop l = l.progress.filled ≤ length l.input
