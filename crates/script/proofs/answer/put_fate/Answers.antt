-- `script::answer::put_fate` meets its contract.
use Rattle.script.proofs.answer.put_fate.Goals as goal

pub returns-in-Ok-Delivered : goal.returns-in-Ok-Delivered
returns-in-Ok-Delivered c =
    let case = c.in-Ok-Delivered in
    rw (case.is, rw case.is at case.field-0-is) c.put_text.ensures
