-- The contract of each public function leaves one output (`OneOutput` of ground/specs/Unique.antt).
use Rattle.ground.specs.Unique.{OneOutput}
use Rattle.unit.specs.contracts as said
use Rattle.ground.proofs.Answers.{refused_once, answer_once}
use Rattle.ground.proofs.Unique.{agree}
use Rattle.unit.proofs.calls
use Rattle.unit.proofs.refusing

-- The refusal of a call about a link.
pub refusing_link_refusal_once : OneOutput said.refusing.link_refusal.ended refusing.link_refusal.Reads.Learnt
refusing_link_refusal_once _ _ first second p q i = (refused_once first.0 second.0 (agree p q) i, _)

-- The answer, the table and the buffer.
pub calls_answer_once : OneOutput said.calls.answer.ended calls.answer.Reads.Learnt
calls_answer_once _ _ first second p q i =
    (answer_once first.0 second.0 (agree p.0 q.0) i, (agree p.1.1.0 q.1.1.0 i, (_, (_, (agree p.1.1.1 q.1.1.1 i, _)))))
