-- The contract of each public function leaves one output (`OneOutput` of ground/specs/Unique.antt).
use Rattle.ground.specs.Unique.{OneOutput}
use Rattle.state.specs.contracts as said
use Rattle.ground.proofs.Answers.{done_once, test_once}
use Rattle.ground.proofs.Reached.{reached_once}
use Rattle.ground.proofs.Unique.{agree}
use Rattle.state.proofs.fit
use Rattle.state.proofs.held
use Rattle.state.proofs.questions

-- The unit that a table holds, and whether it is ACTIVE; the table with a unit put in.
pub held_unit_in_once : OneOutput said.held.unit_in.ended held.unit_in.Reads.Learnt
held_unit_in_once _ _ _ _ p q i = (agree p q i, _)

pub held_is_active_once : OneOutput said.held.is_active.ended held.is_active.Reads.Learnt
held_is_active_once _ _ _ _ p q i = (agree p q i, _)

pub held_put_unit_once : OneOutput said.held.put_unit.ended held.put_unit.Reads.Learnt
held_put_unit_once _ _ _ _ p q i = (_, (agree p q i, _))

-- Whether a table is fit.
pub fit_is_fit_once : OneOutput said.fit.is_fit.ended fit.is_fit.Reads.Learnt
fit_is_fit_once _ _ _ _ p q i = (agree p q i, _)

-- The fresh table with its answer, and the answers to questions.
pub questions_fresh_once : OneOutput said.questions.fresh.ended questions.fresh.Reads.Learnt
questions_fresh_once _ _ first second p q i =
    (done_once first.0 second.0 (agree p.0 q.0) i, (_, (_, (agree p.1 q.1 i, _))))

pub questions_active_once : OneOutput said.questions.active.ended questions.active.Reads.Learnt
questions_active_once _ _ first second p q i = (test_once first.0 second.0 (agree p q) i, _)

pub questions_ask_once : OneOutput said.questions.ask.ended questions.ask.Reads.Learnt
questions_ask_once _ _ first second p q i =
    (reached_once first.0 second.0 p.1 q.1 (agree p.0 q.0) i, _)

pub questions_row_of_once : OneOutput said.questions.row_of.ended questions.row_of.Reads.Learnt
questions_row_of_once _ _ _ _ p q i = (agree p q i, _)
