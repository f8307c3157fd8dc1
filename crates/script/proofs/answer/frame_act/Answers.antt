-- `script::answer::frame_act` meets its contract: each command of the meter is its own call.
use mathlib.Core.Path.{ap}
use Rattle.std.specs.Prelude.{Some}
use Rattle.script.specs.Acting.{frame_number, frame_meter}
use Rattle.script.proofs.Verdicts.{not_framed}
use Rattle.script.proofs.answer.frame_act.Goals as goal

pub returns-in-Enter : goal.returns-in-Enter
unfolding frame_number frame_meter
returns-in-Enter c =
    let did = c.enter.ensures in
    rw c.in-Enter.is (record { answer = ap Some did.answer; inside = did.inside; meter = did.meter })

pub returns-in-Move : goal.returns-in-Move
unfolding frame_number frame_meter
returns-in-Move c =
    let did = c.move_on.ensures in
    rw c.in-Move.is (record { answer = ap Some did.answer; inside = did.inside; meter = did.meter })

pub returns-in-Drop : goal.returns-in-Drop
unfolding frame_number frame_meter
returns-in-Drop c =
    let did = c.drop_frame.ensures in
    rw c.in-Drop.is (record { answer = ap Some did.answer; inside = did.inside; meter = did.meter })

pub returns-in_default : goal.returns-in_default
returns-in_default c =
    let none = not_framed _ _ _ c.args.command c.in_default.not-Enter c.in_default.not-Move c.in_default.not-Drop in
    record { answer = none.0; inside = tt; meter = none.1 }
