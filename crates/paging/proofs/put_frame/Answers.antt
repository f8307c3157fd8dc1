-- `paging::put_frame` meets its contract: the parts of the line, one behind the other.
use Rattle.slices.proofs.Putting.{put_then}
use Rattle.ground.proofs.Clauses.{heard_answer_out, told_answer_out}
use Rattle.paging.proofs.put_frame.Goals as goal

pub returns : goal.returns
returns c =
    told_answer_out (put_then _ _ _ _
    (put_then _ _ _ _
    (put_then _ _ _ _
    (put_then _ _ _ _
    (put_then _ _ _ _
    (put_then _ _ _ _ (heard_answer_out c.put_text-then.ensures) (heard_answer_out c.put_number-then.ensures))
    (heard_answer_out c.put_named-then.ensures))
    (heard_answer_out c.put_named-then-2.ensures))
    (heard_answer_out c.put_named-then-3.ensures))
    (heard_answer_out c.put_named-then-4.ensures))
    (heard_answer_out c.put_byte.ensures))
