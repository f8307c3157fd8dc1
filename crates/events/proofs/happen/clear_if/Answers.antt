-- `events::happen::clear_if` meets its contract, by what its callee ensures.
use Rattle.events.proofs.happen.clear_if.Goals as goal

pub returns-then-clears : goal.returns-then-clears
returns-then-clears c =
    rw c.if-clears.true c.clear_link.ensures
