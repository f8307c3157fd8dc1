-- `paging::put_places` meets its contract: a turn puts the line of one place more.
use native.Mathlib.Omega.{arith}
use mathlib.Core.Path.{◌≡◌, sym}
use Rattle.ground.specs.Limits.{frame_limit}
use Rattle.ground.proofs.Joined.{joined_more}
use Rattle.slices.proofs.Putting.{put_none, put_as, put_then}
use Rattle.frames.specs.Meter.{frame_at}
use Rattle.frames.specs.MeterTable.{meter_from}
use Rattle.paging.specs.Page.{place_text}
use Rattle.paging.proofs.Paged.{place_found}
use Rattle.ground.proofs.Clauses.{heard_answer_out, told_answer_out}
use Rattle.paging.proofs.put_places.Goals as goal

pub loop-place-init : goal.loop-place-init
loop-place-init c = put_none _ _

pub loop-place-preserved : goal.loop-place-preserved
loop-place-preserved c =
    let meter = c.args.meter.now in
    put_as _ _ (sym (joined_more c.loop-place.place (λ place. place_text place (frame_at (meter_from meter) place))))
    (put_then _ _ _ _ c.loop-place.invariant
    (put_as _ _ (place_found meter c.requires c.loop-place.place c.held_at.result c.held_at.ensures)
    (heard_answer_out c.put_place-then.ensures)))

pub returns : goal.returns
returns c =
    let here = c.loop-place in
    let all : here.place ≡ frame_limit = omega arith in
    told_answer_out (rw all at here.invariant)
