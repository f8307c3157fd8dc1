-- `meter::calls::fresh` meets its contract: the length is tested, and zeros are laid over all.
use mathlib.Core.Path.{sym, ap, ◌∙◌}
use borrow.Author.Tests.{eq-eqb, ne_eqb}
use Rattle.ground.specs.Rows.{zeros}
use Rattle.frames.specs.MeterTable.{meter_words, fresh_meter_table}
use Rattle.frames.proofs.LaidMeter.{fresh_laid}
use Rattle.meter.proofs.calls.fresh.Goals as goal

pub returns-then-meter-ne-METER_WORDS : goal.returns-then-meter-ne-METER_WORDS
unfolding fresh_meter_table
returns-then-meter-ne-METER_WORDS c =
    let other = ne_eqb _ meter_words c.if-meter-ne-METER_WORDS.true in
    record { answer = rw other; meter = rw other }

pub returns : goal.returns
unfolding fresh_meter_table
returns c =
    let long = eq-eqb _ meter_words c.if-meter-ne-METER_WORDS.false in
    record { answer = rw long; meter = rw long (c.clear.ensures ∙ ap zeros c.if-meter-ne-METER_WORDS.false ∙ sym fresh_laid) }
