-- Order: a command's call and its answer, and the line that the answer prints. proofs/Verdicts.antt shows that it is `printed`.
use Rattle.std.specs.Prelude.{ℕ, List, Option, Some, None, Result, Ok, Err, eqb}
use Rattle.std.specs.Prelude.{if◌then◌else◌}
use Rattle.ground.specs.Refusal.{accepted}
use Rattle.ground.specs.Refused.{number_of}
use Rattle.ground.specs.declared.refusals.Refusal.{Refusal}
use Rattle.rules.specs.Hub.{hub_answer}
use Rattle.rules.specs.Network.{up, cost, down, deliver}
use Rattle.rules.specs.NetworkTable.{network_answer, fresh_network_refusal}
use Rattle.frames.specs.Meter.{enters, moves, drops}
use Rattle.frames.specs.MeterTable.{meter_answer, meter_after, fresh_meter_table}
use Rattle.meter.specs.declared.calls.Fate.{Fate}
use Rattle.meter.specs.declared.calls.Fate.TheVariants.{Held, Delivered, Dropped}
use Rattle.lines.specs.declared.Command.{Command}
use Rattle.lines.specs.declared.Command.TheVariants.{Units, Up, Cost, Down, Deliver, Show, Enter, Move, Drop, Page, Bad}
use Rattle.texts.specs.Printed.{ok_line, refused_line, held_line, delivered_line, dropped_line}

-- The number of the answer of the call on the network that a command is, if it is one.
abbrev pub act_number : (words bytes : List ℕ) → Command → Option ℕ
act_number words bytes (Units n) = Some (hub_answer (fresh_network_refusal words bytes n) 0)
act_number words bytes (Up a b ca cb) = Some (network_answer words bytes (up a b ca cb))
act_number words bytes (Cost a b c) = Some (network_answer words bytes (cost a b c))
act_number words bytes (Down a b) = Some (network_answer words bytes (down a b))
act_number words bytes (Deliver a b) = Some (network_answer words bytes (deliver a b))
act_number words bytes Show = None
act_number words bytes (Enter size unit destination) = None
act_number words bytes (Move place unit) = None
act_number words bytes (Drop place) = None
act_number words bytes Page = None
act_number words bytes Bad = None

-- What is printed for an answer.
abbrev pub verdict_said : Result (Unit {0}) Refusal → List ℕ
verdict_said (Ok done) = ok_line
verdict_said (Err refusal) = refused_line (number_of refusal)

-- What it leaves of the meter: a good `units` starts it afresh.
abbrev pub meter_begun : (words bytes meter : List ℕ) (n : ℕ) → List ℕ
meter_begun words bytes meter n =
    if eqb (fresh_network_refusal words bytes n) accepted then fresh_meter_table meter else meter

unfoldable pub act_meter : (words bytes meter : List ℕ) → Command → List ℕ
act_meter words bytes meter (Units n) = meter_begun words bytes meter n
act_meter words bytes meter (Up a b ca cb) = meter
act_meter words bytes meter (Cost a b c) = meter
act_meter words bytes meter (Down a b) = meter
act_meter words bytes meter (Deliver a b) = meter
act_meter words bytes meter Show = meter
act_meter words bytes meter (Enter size unit destination) = meter
act_meter words bytes meter (Move place unit) = meter
act_meter words bytes meter (Drop place) = meter
act_meter words bytes meter Page = meter
act_meter words bytes meter Bad = meter

-- The number of the answer of the call of the meter that a command is, if it is one, and what it leaves of the meter.
unfoldable pub frame_number : (words bytes meter : List ℕ) → Command → Option ℕ
frame_number words bytes meter (Units n) = None
frame_number words bytes meter (Up a b ca cb) = None
frame_number words bytes meter (Cost a b c) = None
frame_number words bytes meter (Down a b) = None
frame_number words bytes meter (Deliver a b) = None
frame_number words bytes meter Show = None
frame_number words bytes meter (Enter size unit destination) = Some (meter_answer words bytes meter (enters size unit destination))
frame_number words bytes meter (Move place unit) = Some (meter_answer words bytes meter (moves place unit))
frame_number words bytes meter (Drop place) = Some (meter_answer words bytes meter (drops place))
frame_number words bytes meter Page = None
frame_number words bytes meter Bad = None

unfoldable pub frame_meter : (words bytes meter : List ℕ) → Command → List ℕ
frame_meter words bytes meter (Units n) = meter
frame_meter words bytes meter (Up a b ca cb) = meter
frame_meter words bytes meter (Cost a b c) = meter
frame_meter words bytes meter (Down a b) = meter
frame_meter words bytes meter (Deliver a b) = meter
frame_meter words bytes meter Show = meter
frame_meter words bytes meter (Enter size unit destination) = meter_after words bytes meter (enters size unit destination)
frame_meter words bytes meter (Move place unit) = meter_after words bytes meter (moves place unit)
frame_meter words bytes meter (Drop place) = meter_after words bytes meter (drops place)
frame_meter words bytes meter Page = meter
frame_meter words bytes meter Bad = meter

-- What is printed for an answer.
abbrev pub fate_said : Result Fate Refusal → List ℕ
fate_said (Ok (Held place)) = held_line place
fate_said (Ok Delivered) = delivered_line
fate_said (Ok Dropped) = dropped_line
fate_said (Err refusal) = refused_line (number_of refusal)
