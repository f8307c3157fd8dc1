-- `state::held::row` meets its contract: the row's first numbers are laid over zeros.
use native.Mathlib.Omega.{arith}
use mathlib.Core.Path.{refl, ◌∙◌}
use Rattle.ground.specs.Limits.{unit_limit}
use Rattle.slices.proofs.Stretches.{lent, copied_filled}
use Rattle.state.proofs.held.row.Goals as goal

pub returns : goal.returns
returns c =
    let args = c.args in
    c.lay_over.ensures
    ∙ copied_filled args.table.now args.from args.count (omega arith) unit_limit (omega arith)
    (lent args.table.now args.from args.count refl)
