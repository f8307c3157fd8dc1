-- `slices::lay_over` meets its contract.
use native.Mathlib.Omega.{arith}
use mathlib.Core.Path.{sym}
use Rattle.slices.proofs.Overlaid.{laid_not, laid_over_part}
use Rattle.slices.proofs.lay_over.Goals as goal

pub returns-then-to-from : goal.returns-then-to-from
returns-then-to-from g c = sym (laid_not c.args.to.now _ c.args.from.now (omega arith))

pub returns-then-to-from-2 : goal.returns-then-to-from-2
returns-then-to-from-2 g c = sym (laid_not c.args.to.now _ c.args.from.now (omega arith))

pub returns : goal.returns
returns g c =
    let to = c.args.to.now in
    let from = c.args.from.now in
    laid_over_part to c.args.place from c.copy_from_slice.ensures.after (omega arith)
