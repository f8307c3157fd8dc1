-- `unit::event::is_changed` meets its contract: the rows differ where their first numbers are not the same.
use mathlib.Core.Bool.{not}
use mathlib.Core.Path.{ap, ◌∙◌}
use lib.ListN.{take}
use Rattle.slices.proofs.Alike.{alike}
use Rattle.unit.proofs.event.is_changed.Goals as goal

pub returns : goal.returns
returns c = c.ne.ensures ∙ ap not (alike (take c.args.count c.args.old) (take c.args.count c.args.new))
