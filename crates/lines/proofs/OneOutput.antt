-- The contract of each public function leaves one output (`OneOutput` of ground/specs/Unique.antt).
use Rattle.ground.specs.Unique.{OneOutput}
use Rattle.lines.specs.contracts as said
use Rattle.ground.proofs.Unique.{agree}
use Rattle.lines.proofs.parse

-- Which command a line is.
pub parse_once : OneOutput said.parse.ended parse.Reads.Learnt
parse_once _ _ _ _ p q i = (agree p q i, _)
