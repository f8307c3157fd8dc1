-- `lines::others` meets its contract.
use Rattle.lines.specs.Following.{others_chosen}
use Rattle.lines.proofs.others.Goals as goal

pub returns-then-metered : goal.returns-then-metered
unfolding others_chosen
returns-then-metered c = rw c.if-metered.true c.choose_meter.ensures

pub returns : goal.returns
unfolding others_chosen
returns c = rw c.if-metered.false
