-- `message::writer::write` meets its contract: what it refuses it leaves alone, and what it does not refuse has room.
use native.Mathlib.Omega.{arith}
use lib.ListN.{length-take, length-drop}
use Rattle.std.proofs.lemmas.Result.{err_from_is_err_and}
use Rattle.message.specs.Fields.{fields_of}
use Rattle.message.proofs.Writings.{refused_writing, writable_by, laid_writing}
use Rattle.message.proofs.writer.write.Goals as goal

pub returns-in_err-check : goal.returns-in_err-check
returns-in_err-check c =
    let passed = err_from_is_err_and c.from_residual.result c.from_residual.ensures.1 in
    let args = c.args in
    let told = refused_writing args.count (fields_of args.kind args.sender args.changes.now) args.frame.now args.offset c.in_err-check.field-0.0
    c.in_err-check.ensures in
    rw (passed.1, passed.2) (record { answer = told.0; short = tt; frame = told.1 })

pub slice_bounds-lay-start : goal.slice_bounds-lay-start
slice_bounds-lay-start c =
    let args = c.args in
    let can = writable_by args.count (fields_of args.kind args.sender args.changes.now) args.frame.now args.offset c.in_ok-check.ensures in
    omega (arith, can.inside)

pub lay-requires : goal.lay-requires
lay-requires c =
    let args = c.args in
    let can = writable_by args.count (fields_of args.kind args.sender args.changes.now) args.frame.now args.offset c.in_ok-check.ensures in
    (can.fitting, simp (length-take, length-drop) (omega (arith, can.inside, can.room)))

pub returns : goal.returns
returns c =
    let args = c.args in
    let m = fields_of args.kind args.sender args.changes.now in
    let can = writable_by args.count m args.frame.now args.offset c.in_ok-check.ensures in
    let told = laid_writing args.count m args.frame.now args.offset c.in_ok-check.ensures c.lay.ensures in
    record { answer = told.0; short = omega (arith, can.fitting.few); frame = told.1 }
