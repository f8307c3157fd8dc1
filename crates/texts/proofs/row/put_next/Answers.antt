-- `texts::row::put_next` meets its contract: the distance is put behind the space.
use Rattle.slices.proofs.Putting.{put_then}
use Rattle.ground.proofs.Clauses.{heard_answer_out, told_answer_out}
use Rattle.texts.proofs.row.put_next.Goals as goal

pub returns : goal.returns
returns c =
    told_answer_out (put_then _ _ _ _ (heard_answer_out c.put_byte-then.ensures) (heard_answer_out c.put_distance.ensures))
