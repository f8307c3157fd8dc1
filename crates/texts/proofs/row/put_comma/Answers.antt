-- `texts::row::put_comma` meets its contract.
use Rattle.slices.proofs.Putting.{put_none}
use Rattle.ground.proofs.Clauses.{heard_answer_out, told_answer_out}
use Rattle.texts.proofs.row.put_comma.Goals as goal

pub returns-then-some : goal.returns-then-some
returns-then-some c = told_answer_out (rw c.if-some.true (heard_answer_out c.put_byte.ensures))

pub returns : goal.returns
returns c = told_answer_out (rw c.if-some.false (put_none _ _))
