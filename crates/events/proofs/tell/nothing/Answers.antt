-- `events::tell::nothing` meets its contract: zeros, and no byte used.
use mathlib.Core.Path.{refl}
use Rattle.events.proofs.tell.nothing.Goals as goal

pub returns : goal.returns
returns c = refl
