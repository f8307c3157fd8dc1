-- `border::meters::puntclover_meter_fresh` meets its contract: a meter of another length is refused; else zeros are laid over its
-- bytes.
use Prim.Native.Nat.{ℕ}
use lib.ListN.{length-replicate}
use Rattle.ground.specs.Rows.{zeros}
use Rattle.frames.specs.MeterTable.{meter_words}
use Rattle.border.proofs.MeterBorder.{fresh_meter_refused, fresh_meter_laid}
use Rattle.ground.proofs.Clauses.{heard_answer_meter, told_answer_meter}
use Rattle.border.proofs.meters.puntclover_meter_fresh.Goals as goal

pub returns-then-meter-ne-METER_BYTES : goal.returns-then-meter-ne-METER_BYTES
returns-then-meter-ne-METER_BYTES c = rw c.number.ensures (told_answer_meter (fresh_meter_refused c.args.meter.now c.if-meter-ne-METER_BYTES.true))

pub returns : goal.returns
returns c =
    rw c.done.ensures
    (told_answer_meter (fresh_meter_laid c.args.meter.now c.if-meter-ne-METER_BYTES.false
    (zeros meter_words) (length-replicate {A = ℕ} meter_words 0)
    (heard_answer_meter c.fresh-answer.ensures)
    c.lay_numbers.ensures))
