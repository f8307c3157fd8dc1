-- `listing::put_way` meets its contract.
use Rattle.slices.proofs.Putting.{put_none, put_as}
use Rattle.listing.proofs.ShownUnits.{way_none, way_other}
use Rattle.ground.proofs.Clauses.{heard_answer_out, told_answer_out}
use Rattle.listing.proofs.put_way.Goals as goal

pub returns-then-to-i : goal.returns-then-to-i
returns-then-to-i c = told_answer_out (put_as _ _ (way_none c.args.unit _ _ c.if-to-i.true) (put_none _ _))

pub returns : goal.returns
returns c =
    told_answer_out (put_as _ _ (way_other c.args.unit _ _ c.if-to-i.false) (heard_answer_out c.put_pair.ensures))
