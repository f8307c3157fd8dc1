-- `meter::table::nothing` meets its contract: it is all zeros.
use mathlib.Core.Path.{refl}
use Rattle.meter.proofs.table.nothing.Goals as goal

pub returns : goal.returns
returns c = refl
