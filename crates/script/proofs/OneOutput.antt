-- The contract of each public function leaves one output (`OneOutput` of ground/specs/Unique.antt).
use Rattle.ground.specs.Unique.{OneOutput}
use Rattle.script.specs.contracts as said
use Rattle.ground.proofs.Unique.{agree}
use Rattle.script.proofs.answer

-- The bytes used, the units' numbers, the queues' bytes, the meter's numbers and what is printed.
pub answer_answer_once : OneOutput said.answer.answer.ended answer.answer.Reads.Learnt
answer_answer_once _ _ _ _ p q i = (
  agree p.0 q.0 i,
  (
    agree p.1.1.0 q.1.1.0 i,
    (
      agree p.1.1.1.0 q.1.1.1.0 i,
      (agree p.1.1.1.1 q.1.1.1.1 i, (_, (agree p.1.0 q.1.0 i, _))),
    ),
  ),
)
