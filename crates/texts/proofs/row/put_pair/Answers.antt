-- `texts::row::put_pair` meets its contract: the parts of the line, one behind the other.
use Rattle.slices.proofs.Putting.{put_then}
use Rattle.ground.proofs.Clauses.{heard_answer_out, told_answer_out}
use Rattle.texts.proofs.row.put_pair.Goals as goal

pub returns : goal.returns
returns c =
    told_answer_out (put_then _ _ _ _
    (put_then _ _ _ _
    (put_then _ _ _ _ (put_then _ _ _ _ (heard_answer_out c.put_ends-then.ensures) (heard_answer_out c.put_next-then.ensures)) (heard_answer_out c.put_next-then-2.ensures))
    (put_then _ _ _ _ (heard_answer_out c.put_byte-then.ensures) (heard_answer_out c.put_successors-then.ensures)))
    (heard_answer_out c.put_byte.ensures))
