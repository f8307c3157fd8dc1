-- `unit::calls::take` meets its contract: the message that is taken is the one of the bytes.
use native.Mathlib.Omega.{arith}
use mathlib.Core.Logic.{inl, inr}
use Rattle.ground.proofs.Clauses.{heard_answer_changes}
use Rattle.ground.proofs.Tests.{not_both}
use Rattle.message.proofs.ReaderAnswers.{taken, unread}
use Rattle.unit.proofs.MessageCalls.{taken_noted}
use Rattle.unit.proofs.calls.take.Goals as goal
use Rattle.unit.proofs.calls.take.Goals.{then-updates, else-updates}

pub overflow_cast-unit : goal.overflow_cast-unit
overflow_cast-unit c = omega (arith, c.requires.padded.count)

pub returns-in_default : goal.returns-in_default
returns-in_default c =
    absurd
    (not_both _ c.requires.message.0
    (unread _ c.args.bytes.now c.read-read.result (heard_answer_changes c.read-read.ensures) c.requires.legal c.in_default.field-0 c.in_default.is))

pub slice_bounds-changes-end : goal.slice_bounds-changes-end
slice_bounds-changes-end c =
    (taken _ c.args.bytes.now c.read-read.result (heard_answer_changes c.read-read.ensures) c.in-Ok.header c.in-Ok.is).share

pub slice_bounds-received-end : goal.slice_bounds-received-end
slice_bounds-received-end c =
    (taken _ c.args.bytes.now c.read-read.result (heard_answer_changes c.read-read.ensures) c.in-Ok.header c.in-Ok.is).long

pub received-requires : goal.received-requires
received-requires c = (
  c.requires.padded,
  c.requires.below,
  (taken _ c.args.bytes.now c.read-read.result (heard_answer_changes c.read-read.ensures) c.in-Ok.header c.in-Ok.is).units,
)

pub returns : goal.returns
returns c =
    taken_noted c.args.unit c.args.from c.args.bytes.now c.requires.message.1 c.in-Ok.header
    (taken _ c.args.bytes.now c.read-read.result (heard_answer_changes c.read-read.ensures) c.in-Ok.header c.in-Ok.is)
    c.received.ensures
    (elim c.if-updates.branch [
      | then-updates w ↦ inl (w.if-updates.ensures, w.owed-is)
      | else-updates w ↦ inr (w.if-updates.ensures, w.owed-is)
    ])
