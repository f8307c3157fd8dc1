-- The contract of each public function leaves one output (`OneOutput` of specs/Unique.antt).
use Rattle.ground.specs.Unique.{OneOutput}
use Rattle.ground.specs.contracts as said
use Rattle.ground.proofs.Unique.{agree}
use Rattle.ground.proofs.is_legal_cost
use Rattle.ground.proofs.refusals

-- Whether a number is a link's cost.
pub is_legal_cost_once : OneOutput said.is_legal_cost.ended is_legal_cost.Reads.Learnt
is_legal_cost_once _ _ _ _ p q i = (agree p q i, _)

-- The number of a refusal.
pub refusals_Refusal_number_once : OneOutput said.refusals.Refusal.number.ended refusals.Refusal.number.Reads.Learnt
refusals_Refusal_number_once _ _ _ _ p q i = (agree p q i, _)
