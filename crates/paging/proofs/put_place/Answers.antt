-- `paging::put_place` meets its contract: each arm puts the line of what was found.
use mathlib.Core.Path.{sym, ap}
use Rattle.slices.proofs.Putting.{put_none, put_as}
use Rattle.paging.specs.Page.{found_text}
use Rattle.ground.proofs.Clauses.{heard_answer_out, told_answer_out}
use Rattle.paging.proofs.put_place.Goals as goal

pub returns-in-Some : goal.returns-in-Some
returns-in-Some c =
    told_answer_out
    (put_as _ _ (ap (found_text c.args.place) (sym c.in-Some.is)) (heard_answer_out c.put_frame.ensures))

pub returns-in-None : goal.returns-in-None
returns-in-None c =
    told_answer_out (put_as _ _ (ap (found_text c.args.place) (sym c.in-None.is)) (put_none _ _))
