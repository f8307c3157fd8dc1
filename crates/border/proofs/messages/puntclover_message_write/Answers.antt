-- `border::messages::puntclover_message_write` meets its contract: bytes that are no changes are refused, and others handed to the writer.
use Prim.Native.Nat.{◌/◌}
use native.Mathlib.Omega.{arith}
use mathlib.Core.Path.{◌≡◌}
use borrow.Author.Rules.{rules}
use lib.ListN.{length, length-take}
use Rattle.ground.specs.Limits.{entry_limit}
use Rattle.border.proofs.MessageBorder.{changes_taken, write_broken, write_many, write_all}
use Rattle.ground.proofs.Clauses.{told_answer_frame}
use Rattle.border.proofs.messages.puntclover_message_write.Goals as goal

pub returns-then-changes-ne0 : goal.returns-then-changes-ne0
returns-then-changes-ne0 c =
    let args = c.args in
    told_answer_frame (write_broken args.count args.kind args.sender args.changes.now args.frame.now args.offset
    c.if-changes-ne0.true c.broken.ensures)

pub returns-then-entries-gt-ENTRIES : goal.returns-then-entries-gt-ENTRIES
returns-then-entries-gt-ENTRIES c =
    let args = c.args in
    told_answer_frame (write_many args.count args.kind args.sender args.changes.now args.frame.now args.offset
    c.if-changes-ne0.false c.if-entries-gt-ENTRIES.true c.broken-then-entries-gt-ENTRIES.ensures)

pub slice_bounds-numbers-end : goal.slice_bounds-numbers-end
slice_bounds-numbers-end c =
    let long : length c.changes_in-numbers.result ≡ entry_limit = search rules in
    omega arith

pub slice_bounds-write-end : goal.slice_bounds-write-end
slice_bounds-write-end c =
    let long : length c.changes_in-numbers.result ≡ entry_limit = search rules in
    simp length-take (omega (arith, long))

pub returns : goal.returns
returns c =
    let args = c.args in
    rw c.length.ensures
    (told_answer_frame (write_all args.count args.kind args.sender args.changes.now args.frame.now args.offset
    c.if-changes-ne0.false
    (changes_taken args.changes.now (length args.changes.now / 4) (omega arith) c.changes_in-numbers.ensures)
    (c.write.ensures.answer, c.write.ensures.frame)))
