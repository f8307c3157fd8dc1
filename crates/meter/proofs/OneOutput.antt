-- The contract of each public function leaves one output (`OneOutput` of ground/specs/Unique.antt).
use Rattle.ground.specs.Unique.{OneOutput}
use Rattle.meter.specs.contracts as said
use Rattle.ground.proofs.Answers.{answer_once, done_once}
use Rattle.ground.proofs.Unique.{agree}
use Rattle.meter.proofs.OneFate.{fate_once}
use Rattle.meter.proofs.calls
use Rattle.meter.proofs.fit
use Rattle.meter.proofs.questions
use Rattle.meter.proofs.table

-- A figure and a place of a table, the frame held there, and whether all tables are fit.
pub table_figure_in_once : OneOutput said.table.figure_in.ended table.figure_in.Reads.Learnt
table_figure_in_once _ _ _ _ p q i = (agree p q i, _)

pub table_frame_in_once : OneOutput said.table.frame_in.ended table.frame_in.Reads.Learnt
table_frame_in_once _ _ _ _ p q i = (agree p q i, _)

pub table_held_at_once : OneOutput said.table.held_at.ended table.held_at.Reads.Learnt
table_held_at_once _ _ _ _ p q i = (agree p q i, _)

pub fit_is_fit_once : OneOutput said.fit.is_fit.ended fit.is_fit.Reads.Learnt
fit_is_fit_once _ _ _ _ p q i = (agree p q i, _)

-- The answer, and the meter's numbers.
pub calls_fresh_once : OneOutput said.calls.fresh.ended calls.fresh.Reads.Learnt
calls_fresh_once _ _ first second p q i = (done_once first.0 second.0 (agree p.0 q.0) i, (agree p.1 q.1 i, _))

pub calls_enter_once : OneOutput said.calls.enter.ended calls.enter.Reads.Learnt
calls_enter_once _ _ first second p q i =
    (fate_once first.0 second.0 p.1.0 q.1.0 (agree p.0 q.0) i, (_, (_, (agree p.1.1 q.1.1 i, _))))

pub calls_move_on_once : OneOutput said.calls.move_on.ended calls.move_on.Reads.Learnt
calls_move_on_once _ _ first second p q i =
    (fate_once first.0 second.0 p.1.0 q.1.0 (agree p.0 q.0) i, (_, (_, (agree p.1.1 q.1.1 i, _))))

pub calls_drop_frame_once : OneOutput said.calls.drop_frame.ended calls.drop_frame.Reads.Learnt
calls_drop_frame_once _ _ first second p q i =
    (fate_once first.0 second.0 p.1.0 q.1.0 (agree p.0 q.0) i, (_, (_, (agree p.1.1 q.1.1 i, _))))

-- The answer to a question.
pub questions_ask_figure_once : OneOutput said.questions.ask_figure.ended questions.ask_figure.Reads.Learnt
questions_ask_figure_once _ _ first second p q i = (answer_once first.0 second.0 (agree p.0 q.0) i, _)

pub questions_ask_field_once : OneOutput said.questions.ask_field.ended questions.ask_field.Reads.Learnt
questions_ask_field_once _ _ first second p q i = (answer_once first.0 second.0 (agree p.0 q.0) i, _)
