-- The contract of each public function leaves one output (`OneOutput` of ground/specs/Unique.antt).
use Rattle.ground.specs.Unique.{OneOutput}
use Rattle.running.specs.contracts as said
use Rattle.ground.proofs.Unique.{agree}
use Rattle.running.proofs.run

-- It answers nothing, and leaves nothing.
pub run_once : OneOutput said.run.ended run.Reads.Learnt
run_once _ _ _ _ p q i = (agree p q i, _)
