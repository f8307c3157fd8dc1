-- `border::words::lay_numbers` meets its contract.
use native.Mathlib.Omega.{arith}
use mathlib.Core.Path.{◌∙◌}
use Rattle.border.proofs.Numbers.{laid_none, laid_more, laid_all}
use Rattle.border.proofs.words.lay_numbers.Goals as goal

pub loop-i-init : goal.loop-i-init
loop-i-init c = laid_none c.args.bytes.now c.args.numbers.now

pub loop-i-preserved : goal.loop-i-preserved
loop-i-preserved c =
    let here = c.loop-i in
    rw here.invariant
    (laid_more c.args.bytes.now c.args.numbers.now c.requires here.i _ (omega arith) (omega arith)
    (c.copy_from_slice.ensures.after ∙ c.to_be_bytes.ensures))

pub returns : goal.returns
returns c =
    c.loop-i.invariant ∙ laid_all c.args.bytes.now c.args.numbers.now c.requires c.loop-i.i (omega arith)
