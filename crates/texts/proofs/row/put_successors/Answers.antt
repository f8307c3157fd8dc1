-- `texts::row::put_successors` meets its contract: no successors are the empty text, and the hyphen goes in its place.
use mathlib.Core.Path.{sym, ◌∙◌}
use Rattle.slices.proofs.Putting.{put_as, put_then}
use Rattle.texts.proofs.Successors.{some_joined, hyphen_for_none}
use Rattle.ground.proofs.Clauses.{heard_answer_out, heard_used_out_some, told_answer_out}
use Rattle.texts.proofs.row.put_successors.Goals as goal

pub returns-then-joined : goal.returns-then-joined
returns-then-joined c =
    let put = (heard_used_out_some c.put_joined-joined.ensures) in
    told_answer_out (put_as _ _ (some_joined _ _ (sym put.1.1 ∙ c.if-joined.true)) (put.0, put.1.0))

pub returns : goal.returns
returns c =
    let put = (heard_used_out_some c.put_joined-joined.ensures) in
    told_answer_out (put_as _ _ (hyphen_for_none _ _ (sym put.1.1 ∙ c.if-joined.false))
    (put_then _ _ _ _ (put.0, put.1.0) (heard_answer_out c.put_byte.ensures)))
