-- `message::writer::room_refusal` meets its contract: each return rewrites the definition by the tests that led there.
use Rattle.message.proofs.Counts.{count_known}
use Rattle.message.proofs.Writings.{past_the_end, too_short, long_enough}
use Rattle.message.proofs.writer.room_refusal.Goals as goal

pub returns-then-places-offset : goal.returns-then-places-offset
returns-then-places-offset c = rw (count_known _ c.in_ok-check_count.ensures, past_the_end _ _ _ c.if-places-offset.true)

pub returns-then-places-offset-2 : goal.returns-then-places-offset-2
returns-then-places-offset-2 c =
    rw (count_known _ c.in_ok-check_count.ensures, too_short _ _ _ c.if-places-offset.false c.if-places-offset-2.true)

pub returns : goal.returns
returns c =
    rw (count_known _ c.in_ok-check_count.ensures, long_enough _ _ _ c.if-places-offset.false c.if-places-offset-2.false)
