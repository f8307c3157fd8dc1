-- `lines::choose` meets its contract: a name more is tried before the others.
use Rattle.lines.specs.Following.{chosen}
use Rattle.lines.proofs.choose.Goals as goal

pub returns : goal.returns
unfolding chosen
returns c =
    rw (
      ← c.either-command.ensures,
      ← c.either-command-2.ensures,
      ← c.either-command-3.ensures,
      ← c.either-command-4.ensures,
      ← c.either-command-5.ensures,
      ← c.either.ensures,
    )
