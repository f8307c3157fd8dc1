-- The contract of each public function leaves one output (`OneOutput` of ground/specs/Unique.antt).
use Rattle.ground.specs.Unique.{OneOutput}
use Rattle.message.specs.contracts as said
use Rattle.ground.proofs.Answers.{refused_once, answer_once}
use Rattle.ground.proofs.Unique.{agree}
use Rattle.message.proofs.OneAnswer.{one_reading}
use Rattle.message.proofs.kind
use Rattle.message.proofs.numbers
use Rattle.message.proofs.reader
use Rattle.message.proofs.writer

-- The reading; the answer to writing with the frame.
pub reader_read_once : OneOutput said.reader.read.ended reader.read.Reads.Learnt
reader_read_once _ _ first second p q i =
    (record { answer = one_reading first.0.answer second.0.answer (agree p.0 q.0) i; changes = agree p.1 q.1 i }, _)

pub writer_write_once : OneOutput said.writer.write.ended writer.write.Reads.Learnt
writer_write_once _ _ first second p q i =
    (answer_once first.0 second.0 (agree p.0 q.0) i, (_, (_, (_, (_, (agree p.1.1 q.1.1 i, _))))))

-- The refusal of the count and the room.
pub writer_room_refusal_once : OneOutput said.writer.room_refusal.ended writer.room_refusal.Reads.Learnt
writer_room_refusal_once _ _ first second p q i = (refused_once first.0 second.0 (agree p q) i, _)

-- The number of entries with the table.
pub numbers_read_once : OneOutput said.numbers.read.ended numbers.read.Reads.Learnt
numbers_read_once _ _ first second p q i = (answer_once first.0 second.0 (agree p.0 q.0) i, (_, (_, (agree p.1.1 q.1.1 i, _))))

-- What a kind is.
pub kind_Kind_number_once : OneOutput said.kind.Kind.number.ended kind.Kind.number.Reads.Learnt
kind_Kind_number_once _ _ _ _ p q i = (agree p q i, _)

pub kind_Kind_acknowledges_once : OneOutput said.kind.Kind.acknowledges.ended kind.Kind.acknowledges.Reads.Learnt
kind_Kind_acknowledges_once _ _ _ _ p q i = (agree p q i, _)

pub kind_Kind_updates_once : OneOutput said.kind.Kind.updates.ended kind.Kind.updates.Reads.Learnt
kind_Kind_updates_once _ _ _ _ p q i = (agree p q i, _)
