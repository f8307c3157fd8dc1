-- The contract of each public function leaves one output (`OneOutput` of ground/specs/Unique.antt).
use Rattle.ground.specs.Unique.{OneOutput}
use Rattle.events.specs.contracts as said
use Rattle.ground.proofs.Answers.{done_once}
use Rattle.ground.proofs.Unique.{agree}
use Rattle.events.proofs.ToldUnit.{told_once, laid_once}
use Rattle.events.proofs.happen
use Rattle.events.proofs.tell

-- What a unit answers, and the table and messages that it would leave.
pub tell_tell_once : OneOutput said.tell.tell.ended tell.tell.Reads.Learnt
tell_tell_once _ _ a b p q i = (told_once _ _ a.0 b.0 p.0 q.0 p.1 q.1 i, _)

pub tell_nothing_once : OneOutput said.tell.nothing.ended tell.nothing.Reads.Learnt
tell_nothing_once _ _ a b p q i = (agree p q i, _)

pub tell_tell_into_once : OneOutput said.tell.tell_into.ended tell.tell_into.Reads.Learnt
tell_tell_into_once _ _ a b p q i = (laid_once _ _ _ a.0 b.0 p.0 q.0 i, (_, (_, (_, (agree p.1 q.1 i, _)))))

pub tell_tell_first_into_once : OneOutput said.tell.tell_first_into.ended tell.tell_first_into.Reads.Learnt
tell_tell_first_into_once _ _ a b p q i = (laid_once _ _ _ a.0 b.0 p.0 q.0 i, (_, (_, (_, (_, (agree p.1 q.1 i, _))))))

pub tell_tell_first_once : OneOutput said.tell.tell_first.ended tell.tell_first.Reads.Learnt
tell_tell_first_once _ _ a b p q i = (told_once _ _ a.0 b.0 p.0 q.0 p.1 q.1 i, _)

-- The answer, the units' numbers and the queues' bytes.
pub happen_at_one_once : OneOutput said.happen.at_one.ended happen.at_one.Reads.Learnt
happen_at_one_once _ _ a b p q i = (done_once a.0 b.0 (agree p.0 q.0) i, (agree p.1.0 q.1.0 i, (agree p.1.1 q.1.1 i, _)))

pub happen_at_both_once : OneOutput said.happen.at_both.ended happen.at_both.Reads.Learnt
happen_at_both_once _ _ a b p q i = (done_once a.0 b.0 (agree p.0 q.0) i, (agree p.1.0 q.1.0 i, (agree p.1.1 q.1.1 i, _)))
