-- `paging::put_named` meets its contract: its parts, one behind the other.
use Rattle.slices.proofs.Putting.{put_then}
use Rattle.ground.proofs.Clauses.{heard_answer_out, told_answer_out}
use Rattle.paging.proofs.put_named.Goals as goal

pub returns : goal.returns
returns c =
    told_answer_out
    (put_then _ _ _ _
    (put_then _ _ _ _ (heard_answer_out c.put_byte-then.ensures) (heard_answer_out c.put_text-then.ensures))
    (put_then _ _ _ _ (heard_answer_out c.put_byte-then-2.ensures) (heard_answer_out c.put_number.ensures)))
