-- `slices::bytes::put_byte` meets its contract: the byte is stored where there is room.
use Rattle.slices.proofs.Putting.{put_byte, put_past}
use Rattle.ground.proofs.Clauses.{told_answer_out}
use Rattle.slices.proofs.bytes.put_byte.Goals as goal

pub returns-then-used-out : goal.returns-then-used-out
returns-then-used-out c = told_answer_out (put_byte _ _ _ c.if-used-out.true)

pub returns : goal.returns
returns c = told_answer_out (put_past _ _ _ c.if-used-out.false)
