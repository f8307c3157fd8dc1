-- `meter::calls::end` meets its contract: the bytes are counted, then zeros are put at the place.
use Rattle.meter.proofs.CallAnswers.{counted_long, counted_freed}
use Rattle.meter.proofs.calls.end.Goals as goal

pub put_frame-requires : goal.put_frame-requires
put_frame-requires c = (
  counted_long c.args.sum c.args.size c.args.meter.now _ c.count_bytes.ensures,
  c.requires.1,
)

pub returns : goal.returns
returns c =
    counted_freed c.args.sum c.args.size c.args.meter.now c.args.place
    c.nothing.result _ _
    c.nothing.ensures
    c.count_bytes.ensures
    c.put_frame.ensures
