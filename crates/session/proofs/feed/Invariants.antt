-- The invariant: what is lent goes on as it would have from the start.
use Prim.Native.Nat.{◌-◌}
use mathlib.Core.Path.{◌≡◌}
use lib.ListN.{length}
use Rattle.session.specs.Lending.{feeding}
use Rattle.session.proofs.feed.Given as goal

abbrev pub invariant-loop-reached : goal.invariant-loop-reached
invariant-loop-reached l = (length l.words ≡ length l.initial.words)
    × (length l.queues ≡ length l.initial.queues)
    × (length l.meter ≡ length l.initial.meter)
    × (length l.line ≡ length l.initial.line)
    × (length l.out ≡ length l.initial.out)
    × (feeding l.words l.queues l.meter l.line l.reached.held l.chunk l.reached.place l.out l.reached.used
    ≡ feeding l.initial.words l.initial.queues l.initial.meter l.initial.line l.held l.chunk l.place l.initial.out l.used)

abbrev pub decreases-loop-reached : goal.decreases-loop-reached
decreases-loop-reached l = length l.chunk - l.reached.place
