-- `texts::row::put_ends` meets its contract: the second number is put behind the first and a space.
use Rattle.slices.proofs.Putting.{put_then}
use Rattle.ground.proofs.Clauses.{heard_answer_out, told_answer_out}
use Rattle.texts.proofs.row.put_ends.Goals as goal

pub returns : goal.returns
returns c =
    told_answer_out (put_then _ _ _ _ (heard_answer_out c.put_number-then.ensures)
    (put_then _ _ _ _ (heard_answer_out c.put_byte-then.ensures) (heard_answer_out c.put_number.ensures)))
