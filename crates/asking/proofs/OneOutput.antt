-- The contract of each public function leaves one output (`OneOutput` of ground/specs/Unique.antt).
use Rattle.ground.specs.Unique.{OneOutput}
use Rattle.asking.specs.contracts as said
use Rattle.ground.proofs.Answers.{test_once}
use Rattle.ground.proofs.Reached.{reached_once}
use Rattle.ground.proofs.Unique.{agree}
use Rattle.asking.proofs.asked
use Rattle.asking.proofs.row_of
use Rattle.asking.proofs.state

-- The answers to questions about a network.
pub state_once : OneOutput said.state.ended state.Reads.Learnt
state_once _ _ first second p q i = (test_once first.0 second.0 (agree p q) i, _)

pub asked_once : OneOutput said.asked.ended asked.Reads.Learnt
asked_once _ _ first second p q i = (reached_once first.0 second.0 p.1 q.1 (agree p.0 q.0) i, _)

pub row_of_once : OneOutput said.row_of.ended row_of.Reads.Learnt
row_of_once _ _ _ _ p q i = (agree p q i, _)
