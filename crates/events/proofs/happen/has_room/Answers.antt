-- `events::happen::has_room` meets its contract, by what its callees ensure.
use Rattle.events.proofs.happen.has_room.Goals as goal

pub returns : goal.returns
returns c = rw c.has_room.ensures
