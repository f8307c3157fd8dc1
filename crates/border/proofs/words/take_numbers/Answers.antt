-- `border::words::take_numbers` meets its contract.
use native.Mathlib.Omega.{arith}
use mathlib.Core.Path.{refl, ◌∙◌}
use Rattle.border.proofs.Numbers.{taken_more, taken_all}
use Rattle.border.proofs.words.take_numbers.Goals as goal

pub loop-i-init : goal.loop-i-init
loop-i-init c = refl

pub loop-i-preserved : goal.loop-i-preserved
loop-i-preserved c =
    let here = c.loop-i in
    rw here.invariant
    (taken_more c.args.bytes.now c.args.numbers.now c.requires here.i _ (omega arith) c.word.ensures)

pub returns : goal.returns
returns c =
    c.loop-i.invariant ∙ taken_all c.args.bytes.now c.args.numbers.now c.requires c.loop-i.i (omega arith)
