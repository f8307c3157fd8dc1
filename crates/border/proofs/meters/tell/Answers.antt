-- `border::meters::tell` meets its contract: each call is its own function.
use Rattle.border.proofs.meters.tell.Goals as goal

pub returns-in-Enter : goal.returns-in-Enter
returns-in-Enter c =
    let done = c.enter.ensures in
    rw c.in-Enter.is (record { answer = done.answer; inside = done.inside; table = done.meter })

pub returns-in-Move : goal.returns-in-Move
returns-in-Move c =
    let done = c.move_on.ensures in
    rw c.in-Move.is (record { answer = done.answer; inside = done.inside; table = done.meter })

pub returns-in-Drop : goal.returns-in-Drop
returns-in-Drop c =
    let done = c.drop_frame.ensures in
    rw c.in-Drop.is (record { answer = done.answer; inside = done.inside; table = done.meter })
