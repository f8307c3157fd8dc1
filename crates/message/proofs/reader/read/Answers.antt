-- `message::reader::read` meets its contract: each refusal is the one that the definition gives, by the tests that led there.
use mathlib.Core.Path.{sym}
use borrow.Author.Tests.{leb-true}
use lib.Dec.{leb}
use Rattle.ground.specs.Limits.{unit_limit}
use Rattle.ground.specs.declared.refusals.Refusal.TheVariants.{Message as AgainstTheLayout}
use Rattle.ground.proofs.Tests.{both}
use Rattle.message.proofs.Counts.{count_known}
use Rattle.message.proofs.Readings.{as_refused, bad_count, not_framed, framed_length}
use Rattle.ground.proofs.Clauses.{heard_answer_changes, told_answer_changes}
use Rattle.message.proofs.reader.read.Goals as goal

pub returns-in-Err : goal.returns-in-Err
returns-in-Err c =
    told_answer_changes (as_refused c.args.count c.args.bytes.now c.in-Err.refusal c.refused.result (heard_answer_changes c.refused.ensures) (bad_count c.args.count c.args.bytes.now c.in-Err.refusal c.in-Err.ensures))

pub returns-then-not-is_framed : goal.returns-then-not-is_framed
returns-then-not-is_framed c =
    told_answer_changes (as_refused _ _ AgainstTheLayout c.refused-then-not-is_framed.result (heard_answer_changes c.refused-then-not-is_framed.ensures)
    (not_framed c.args.count c.args.bytes.now (count_known c.args.count c.in_default.ensures) (sym c.if-not-is_framed.ensures)))

pub read_framed-requires : goal.read_framed-requires
read_framed-requires c =
    let framed = sym c.if-not-is_framed.ensures in
    let count = both (leb 2 c.args.count) _ (count_known c.args.count c.in_default.ensures) in
    record { two = leb-true 2 _ count.0; limit = leb-true _ unit_limit count.1; framed = framed; long = framed_length _ framed }
