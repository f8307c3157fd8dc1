-- `unit::noting::copy_of` meets its contract: the row is the copy as it is laid, by `copy_laid`.
use mathlib.Core.Path.{◌∙◌}
use Rattle.unit.proofs.NotedArrays.{copy_laid}
use Rattle.unit.proofs.noting.copy_of.Goals as goal

pub returns : goal.returns
returns c =
    c.copy_of.ensures ∙ copy_laid c.args.unit c.requires.0 c.args.k c.requires.1
