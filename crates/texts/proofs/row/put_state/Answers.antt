-- `texts::row::put_state` meets its contract: its parts, one behind the other.
use Rattle.slices.proofs.Putting.{put_then}
use Rattle.ground.proofs.Clauses.{heard_answer_out, told_answer_out}
use Rattle.texts.proofs.row.put_state.Goals as goal

pub returns : goal.returns
returns c =
    told_answer_out (put_then _ _ _ _
    (put_then _ _ _ _ (put_then _ _ _ _ (heard_answer_out c.put_text-then.ensures) (heard_answer_out c.put_number-then.ensures)) (heard_answer_out c.put_word-then.ensures))
    (heard_answer_out c.put_byte.ensures))
