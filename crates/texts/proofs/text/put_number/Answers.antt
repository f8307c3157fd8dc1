-- `texts::text::put_number` meets its contract.
use native.Mathlib.Omega.{arith}
use Rattle.slices.proofs.Putting.{put_as}
use Rattle.texts.proofs.Digits.{long_decimal}
use Rattle.ground.proofs.Clauses.{heard_answer_out, told_answer_out}
use Rattle.texts.proofs.text.put_number.Goals as goal

pub returns : goal.returns
returns c = told_answer_out (put_as _ _ (long_decimal _ (omega arith)) (heard_answer_out c.put_long.ensures))
