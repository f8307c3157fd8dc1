-- The contract of each public function leaves one output (`OneOutput` of ground/specs/Unique.antt).
use Rattle.ground.specs.Unique.{OneOutput}
use Rattle.listing.specs.contracts as said
use Rattle.ground.proofs.Unique.{agree}
use Rattle.listing.proofs.show

-- The bytes used, and the buffer.
pub show_once : OneOutput said.show.ended show.Reads.Learnt
show_once _ _ _ _ p q i = (agree p.0 q.0 i, (_, (_, (agree p.1 q.1 i, _))))
