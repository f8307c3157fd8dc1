-- `unit::send::lay_one` meets its contract: the writer does not refuse a message that can be sent.
use native.Mathlib.Omega.{arith}
use mathlib.Core.Path.{ap}
use Rattle.ground.proofs.Clauses.{told_answer_laid}
use Rattle.unit.specs.Sending.{number_for}
use Rattle.unit.proofs.LaidMessages.{laid_none, numbered_long, number_there, number_by, bytes_by, not_refused, used-by, laid_by}
use Rattle.unit.proofs.send.lay_one.Goals as goal

-- No message.
pub returns-in_default : goal.returns-in_default
returns-in_default c =
    let args = c.args in
    told_answer_laid (laid_none args.k (number_for args.kind) args.me args.changes.now args.out.now args.used (ap number_for c.in_default.is))

pub bounds-out-used : goal.bounds-out-used
bounds-out-used c = omega (arith, c.requires.fits (number_there c.in-Some.is))

pub overflow_add-used : goal.overflow_add-used
overflow_add-used c = omega (arith, c.requires.fits (number_there c.in-Some.is))

pub overflow_add-result : goal.overflow_add-result
overflow_add-result c = omega (arith, c.requires.fits (number_there c.in-Some.is))

pub overflow_add-result-in-Ok : goal.overflow_add-result-in-Ok
overflow_add-result-in-Ok c = omega (arith, c.requires.fits (number_there c.in-Some.is), c.in-Ok.ensures.short)

pub shape_of-out-in-Ok : goal.shape_of-out-in-Ok
shape_of-out-in-Ok c = numbered_long c.args.k c.args.out.now c.args.used c.write.auto.frame

-- The length that the writer answers is the message's.
pub returns-in-Ok : goal.returns-in-Ok
returns-in-Ok c =
    let args = c.args in
    let some = number_there c.in-Some.is in
    let given = rw (number_by c.in-Some.is c.number.ensures) at c.write.ensures in
    record {
      answer =
          used-by _ _ _ _ args.changes.now args.out.now _ c.requires some
          (bytes_by _ _ _ _ args.changes.now args.out.now _ c.requires some c.write.result given.answer c.in-Ok.is);
      laid = laid_by _ _ _ _ args.changes.now args.out.now _ c.requires some given.frame;
    }

pub returns-in-Err : goal.returns-in-Err
returns-in-Err c =
    let args = c.args in
    let given = rw (number_by c.in-Some.is c.number.ensures) at c.write.ensures in
    absurd
    (not_refused _ _ _ _ args.changes.now args.out.now _ c.requires (number_there c.in-Some.is) c.write.result given.answer
    c.in-Err.field-0 c.in-Err.is)

pub shape_of-out-in-Err : goal.shape_of-out-in-Err
shape_of-out-in-Err c = numbered_long c.args.k c.args.out.now c.args.used c.write.auto.frame
