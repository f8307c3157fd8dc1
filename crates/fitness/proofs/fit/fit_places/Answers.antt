-- `fitness::fit::fit_places` meets its contract, by what `all` finds over a range.
use Prim.Native.Nat.{◌*◌, ◌<◌}
use native.Mathlib.Omega.{arith}
use Rattle.std.proofs.Common.{rules, tests}
use Rattle.std.proofs.lemmas.Iterator.{serves_from_Range}
use Rattle.ground.specs.Limits.{message_room, queue_room}
use Rattle.rules.specs.Tables.{part}
use Rattle.queues.proofs.QueueThere.{held_most}
use Rattle.fitness.specs.PartsFit.{fit_place}
use Rattle.ground.proofs.Chains.{all_below}
use Rattle.fitness.proofs.fit.fit_places.Goals as goal

pub all-requires-clause-callable : goal.all-requires-clause-callable
all-requires-clause-callable c =
    serves_from_Range (λ x q k. search rules)
    (λ x low high.
    let below : x < queue_room = omega (arith, held_most c.args.queue.now, c.requires) in
    search rules)

pub returns : goal.returns
returns c =
    let args = c.args in
    all_below (λ i. fit_place args.count args.sender (part args.queue.now (i * message_room) message_room)) args.held
    _ _ _ c.all.ensures.ran (λ x b q k. search (rules, tests))
