-- The contract of each public function leaves one output (`OneOutput` of ground/specs/Unique.antt).
use Rattle.ground.specs.Unique.{OneOutput}
use Rattle.network.specs.contracts as said
use Rattle.ground.proofs.Answers.{done_once}
use Rattle.ground.proofs.Unique.{agree}
use Rattle.network.proofs.calls
use Rattle.network.proofs.fresh

-- The answer, the units' numbers and the queues' bytes.
pub calls_up_once : OneOutput said.calls.up.ended calls.up.Reads.Learnt
calls_up_once _ _ a b p q i = (done_once a.0 b.0 (agree p.0 q.0) i, (agree p.1.0 q.1.0 i, (agree p.1.1 q.1.1 i, _)))

pub calls_cost_once : OneOutput said.calls.cost.ended calls.cost.Reads.Learnt
calls_cost_once _ _ a b p q i = (done_once a.0 b.0 (agree p.0 q.0) i, (agree p.1.0 q.1.0 i, (agree p.1.1 q.1.1 i, _)))

pub calls_down_once : OneOutput said.calls.down.ended calls.down.Reads.Learnt
calls_down_once _ _ a b p q i = (done_once a.0 b.0 (agree p.0 q.0) i, (agree p.1.0 q.1.0 i, (agree p.1.1 q.1.1 i, _)))

pub calls_deliver_once : OneOutput said.calls.deliver.ended calls.deliver.Reads.Learnt
calls_deliver_once _ _ a b p q i = (done_once a.0 b.0 (agree p.0 q.0) i, (agree p.1.0 q.1.0 i, (agree p.1.1 q.1.1 i, _)))

-- The fresh network likewise.
pub fresh_fresh_once : OneOutput said.fresh.fresh.ended fresh.fresh.Reads.Learnt
fresh_fresh_once _ _ a b p q i = (done_once a.0 b.0 (agree p.0 q.0) i, (_, (agree p.1.0 q.1.0 i, (agree p.1.1 q.1.1 i, _))))
