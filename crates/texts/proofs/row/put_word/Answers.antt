-- `texts::row::put_word` meets its contract.
use Rattle.ground.proofs.Clauses.{heard_answer_out, told_answer_out}
use Rattle.texts.proofs.row.put_word.Goals as goal

pub returns-then-active : goal.returns-then-active
returns-then-active c =
    told_answer_out (rw c.if-active.true (heard_answer_out c.put_text.ensures))

pub returns : goal.returns
returns c =
    told_answer_out (rw c.if-active.false (heard_answer_out c.put_text-2.ensures))
