-- `events::happen::pop_if` meets its contract, by what its callee ensures.
use Rattle.events.proofs.happen.pop_if.Goals as goal

pub returns-then-pops : goal.returns-then-pops
returns-then-pops c =
    rw c.if-pops.true c.pop.ensures
