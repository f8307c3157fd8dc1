-- `queues::queue::begins` meets its contract: a row of queues for each sender.
use native.Mathlib.Omega.{arith}
use Rattle.queues.proofs.queue.begins.Goals as goal

pub returns : goal.returns
returns c = omega arith
