-- `queues::queue::popped` meets its contract: what comes after the first message is laid over zeros.
use native.Mathlib.Omega.{arith}
use mathlib.Core.Path.{◌≡◌, ap, ◌∙◌}
use borrow.Author.Rules.{rules}
use lib.ListN.{length, drop, length-drop}
use Rattle.ground.specs.Limits.{message_room}
use Rattle.ground.specs.Rows.{zeros}
use Rattle.ground.proofs.Parts.{to_end}
use Rattle.rules.specs.Tables.{queue_bytes}
use Rattle.queues.specs.Queue.{popped_of}
use Rattle.slices.specs.Slices.{laid_over}
use Rattle.slices.proofs.Overlaid.{laid_zeros}
use Rattle.queues.proofs.queue.popped.Goals as goal

pub returns : goal.returns
unfolding popped_of
returns c =
    let queue = c.args.queue in
    let long : length queue ≡ queue_bytes = search rules in
    c.lay_over.ensures
    ∙ ap (laid_over (zeros queue_bytes) 0) (rw long at (to_end queue message_room))
    ∙ laid_zeros queue_bytes (drop message_room queue) (omega (arith, length-drop message_room queue))
