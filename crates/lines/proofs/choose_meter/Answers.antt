-- `lines::choose_meter` meets its contract: a name more is tried before the others.
use Rattle.lines.specs.Following.{meter_chosen}
use Rattle.lines.proofs.choose_meter.Goals as goal

pub returns : goal.returns
unfolding meter_chosen
returns c =
    rw (← c.either-command.ensures, ← c.either-command-2.ensures, ← c.either-command-3.ensures, ← c.either.ensures)
