-- `message::reader::read_framed` meets its contract: the fields that it finds are the message's, and they decide.
use Prim.Native.Nat.{◌≤◌}
use mathlib.Core.Path.{sym}
use Rattle.ground.specs.Rows.{at}
use Rattle.ground.specs.declared.refusals.Refusal.TheVariants.{Message as AgainstTheLayout}
use Rattle.message.proofs.Readings.{as_refused, too_many_entries, found_length, found_answer, found_refusal, as_found}
use Rattle.ground.proofs.Clauses.{heard_answer_changes, told_answer_changes}
use Rattle.message.proofs.reader.read_framed.Goals as goal

pub returns-then-count-entries : goal.returns-then-count-entries
returns-then-count-entries c =
    let many : c.args.count ≤ at c.args.bytes.now 3 = rw c.from-entries.ensures at c.if-count-entries.true in
    told_answer_changes (as_refused _ _ AgainstTheLayout c.refused.result (heard_answer_changes c.refused.ensures) (sym (too_many_entries _ _ c.requires many)))

pub slice_bounds-header_of-end : goal.slice_bounds-header_of-end
slice_bounds-header_of-end c = found_length _ _ _ c.changes_in-changes.ensures

pub returns-in-Ok : goal.returns-in-Ok
returns-in-Ok c =
    let found = c.changes_in-changes.ensures in
    let answer = found_answer _ _ _ found c.args.count c.from-entries.ensures c.requires c.header_of-answer.result c.header_of-answer.ensures in
    told_answer_changes (as_found _ _ _ found c.args.count c.from-entries.ensures c.header_of-answer.result c.in-Ok.field-0 c.in-Ok.is answer)

pub returns-in-Err : goal.returns-in-Err
returns-in-Err c =
    let found = c.changes_in-changes.ensures in
    let answer = found_answer _ _ _ found c.args.count c.from-entries.ensures c.requires c.header_of-answer.result c.header_of-answer.ensures in
    told_answer_changes
    (as_refused _ _ c.in-Err.refusal c.refused-in-Err.result (heard_answer_changes c.refused-in-Err.ensures)
    (found_refusal c.args.count c.args.bytes.now c.header_of-answer.result c.in-Err.refusal c.in-Err.is answer))
