-- The contract of each public function leaves one output (`OneOutput` of ground/specs/Unique.antt).
use Rattle.ground.specs.Unique.{OneOutput}
use Rattle.queues.specs.contracts as said
use Rattle.ground.proofs.Unique.{agree}
use Rattle.queues.proofs.parcels
use Rattle.queues.proofs.queue

-- Where a queue begins, what it holds, and whether a parcel has room.
pub queue_begins_once : OneOutput said.queue.begins.ended queue.begins.Reads.Learnt
queue_begins_once _ _ _ _ p q i = (agree p q i, _)

pub queue_load_once : OneOutput said.queue.load.ended queue.load.Reads.Learnt
queue_load_once _ _ _ _ p q i = (agree p q i, _)

pub queue_held_once : OneOutput said.queue.held.ended queue.held.Reads.Learnt
queue_held_once _ _ _ _ p q i = (agree p q i, _)

pub parcels_has_room_once : OneOutput said.parcels.has_room.ended parcels.has_room.Reads.Learnt
parcels_has_room_once _ _ _ _ p q i = (agree p q i, _)

-- The queues' bytes after a message is taken, a link is emptied, a parcel is sent.
pub queue_pop_once : OneOutput said.queue.pop.ended queue.pop.Reads.Learnt
queue_pop_once _ _ _ _ p q i = (_, (agree p q i, _))

pub queue_clear_link_once : OneOutput said.queue.clear_link.ended queue.clear_link.Reads.Learnt
queue_clear_link_once _ _ _ _ p q i = (_, (agree p q i, _))

pub parcels_send_once : OneOutput said.parcels.send.ended parcels.send.Reads.Learnt
parcels_send_once _ _ _ _ p q i = (_, (agree p q i, _))
