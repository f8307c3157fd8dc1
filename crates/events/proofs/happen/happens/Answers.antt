-- `events::happen::happens` meets its contract, by what its callees ensure.
use Rattle.events.proofs.happen.happens.Goals as goal

pub returns : goal.returns
returns c =
    record { words = c.put.ensures; queues = rw c.send.ensures }
