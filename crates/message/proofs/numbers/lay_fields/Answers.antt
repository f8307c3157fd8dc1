-- `message::numbers::lay_fields` meets its contract: after the three stores, the changes are copied.
use native.Mathlib.Omega.{arith}
use Rattle.message.proofs.NumberAnswers.{all_laid}
use Rattle.message.proofs.numbers.lay_fields.Goals as goal

pub returns : goal.returns
returns c =
    let args = c.args in
    rw c.copy_from_slice.ensures.after
    (all_laid args.kind args.sender args.entries args.changes.now args.fields.now (omega arith))
