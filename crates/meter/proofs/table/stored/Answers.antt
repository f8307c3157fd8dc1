-- `meter::table::stored` meets its contract: the first of the two numbers is the high one.
use Prim.Native.Nat.{◌+◌, ◌*◌}
use mathlib.Core.Path.{ap₂}
use Rattle.frames.specs.MeterTable.{figure_base}
use Rattle.meter.proofs.table.stored.Goals as goal

pub returns : goal.returns
returns c = ap₂ (λ high low. high * figure_base + low) c.from.ensures c.from-2.ensures
