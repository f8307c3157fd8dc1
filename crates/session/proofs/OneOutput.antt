-- The contract of each public function leaves one output (`OneOutput` of ground/specs/Unique.antt).
use Rattle.ground.specs.Unique.{OneOutput}
use Rattle.session.specs.contracts as said
use Rattle.ground.proofs.Unique.{agree}
use Rattle.session.proofs.feed
use Rattle.session.proofs.finish

-- How far it came, the network's tables, the meter's, the line and the buffer.
pub feed_once : OneOutput said.feed.ended feed.Reads.Learnt
feed_once _ _ _ _ p q i = (
  agree p.0 q.0 i,
  (
    agree p.1.0 q.1.0 i,
    (
      agree p.1.1.0 q.1.1.0 i,
      (
        agree p.1.1.1.0 q.1.1.1.0 i,
        (
          agree p.1.1.1.1.0 q.1.1.1.1.0 i,
          (_, (_, (_, (agree p.1.1.1.1.1.0 q.1.1.1.1.1.0 i, _)))),
        ),
      ),
    ),
  ),
)

pub finish_once : OneOutput said.finish.ended finish.Reads.Learnt
finish_once _ _ _ _ p q i = (
  agree p.0 q.0 i,
  (
    agree p.1.0 q.1.0 i,
    (
      agree p.1.1.0 q.1.1.0 i,
      (
        agree p.1.1.1.0 q.1.1.1.0 i,
        (
          agree p.1.1.1.1.0 q.1.1.1.1.0 i,
          (_, (agree p.1.1.1.1.1.0 q.1.1.1.1.1.0 i, _)),
        ),
      ),
    ),
  ),
)
