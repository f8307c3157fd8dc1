-- `texts::row::put_distance` meets its contract.
use borrow.Author.Tests.{eq-eqb, ne_eqb}
use Rattle.ground.proofs.Clauses.{heard_answer_out, told_answer_out}
use Rattle.texts.proofs.row.put_distance.Goals as goal

pub returns-then-distance-eq-FAR : goal.returns-then-distance-eq-FAR
returns-then-distance-eq-FAR c = told_answer_out (rw (eq-eqb _ _ c.if-distance-eq-FAR.true) (heard_answer_out c.put_byte.ensures))

pub returns : goal.returns
returns c = told_answer_out (rw (ne_eqb _ _ c.if-distance-eq-FAR.false) (heard_answer_out c.put_number.ensures))
