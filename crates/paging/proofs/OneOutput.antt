-- The contract of each public function leaves one output (`OneOutput` of ground/specs/Unique.antt).
use Rattle.ground.specs.Unique.{OneOutput}
use Rattle.paging.specs.contracts as said
use Rattle.ground.proofs.Unique.{agree}
use Rattle.paging.proofs.page

-- The bytes used, and the buffer.
pub page_once : OneOutput said.page.ended page.Reads.Learnt
page_once _ _ _ _ p q i = (agree p.0 q.0 i, (_, (_, (_, (agree p.1 q.1 i, _)))))
