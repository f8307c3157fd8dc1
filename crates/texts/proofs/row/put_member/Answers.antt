-- `texts::row::put_member` meets its contract: the number is put behind the comma.
use mathlib.Core.Path.{refl}
use Rattle.slices.proofs.Putting.{put_none, put_then}
use Rattle.ground.proofs.Clauses.{heard_answer_out, told_used_out_some}
use Rattle.texts.proofs.row.put_member.Goals as goal

pub returns-then-member : goal.returns-then-member
returns-then-member c =
    let both = put_then _ _ _ _ (heard_answer_out c.put_comma-then.ensures) (heard_answer_out c.put_number-used.ensures) in
    told_used_out_some (rw c.if-member.true (both.0, (both.1, refl)))

pub returns : goal.returns
returns c =
    let none = put_none c.args.out.now c.args.before.used in
    told_used_out_some (rw c.if-member.false (none.0, (none.1, refl)))
