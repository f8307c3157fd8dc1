-- `message::writer::check` meets its contract: the count and the room are looked at first, and then the fields decide.
use mathlib.Core.Path.{sym, ◌∙◌}
use Rattle.std.proofs.lemmas.Result.{err_from_is_err_and}
use Rattle.message.specs.Fields.{fields_of}
use Rattle.message.proofs.Writings.{by_room, by_fields}
use Rattle.message.proofs.KindNumbers.{kindless}
use Rattle.message.proofs.writer.check.Goals as goal

pub returns-in_err-room_refusal : goal.returns-in_err-room_refusal
returns-in_err-room_refusal c =
    let passed = err_from_is_err_and c.from_residual.result c.from_residual.ensures.1 in
    let args = c.args in
    rw (passed.1, passed.2)
    (by_room args.count (fields_of args.kind args.sender args.changes.now) args.places args.offset c.in_err-room_refusal.field-0.0
    c.in_err-room_refusal.ensures)

pub returns-in_err-kind : goal.returns-in_err-kind
returns-in_err-kind c =
    let passed = err_from_is_err_and c.from_residual-in_err-kind.result c.from_residual-in_err-kind.ensures.1 in
    let args = c.args in
    let m = fields_of args.kind args.sender args.changes.now in
    rw (passed.1, passed.2, c.in_err-kind.ensures.0)
    (sym
    (by_fields args.count m args.places args.offset c.in_ok-room_refusal.ensures
    ∙ rw (kindless args.count m c.in_err-kind.ensures.1)))

pub returns-then-not-legal_fields : goal.returns-then-not-legal_fields
returns-then-not-legal_fields c =
    let args = c.args in
    sym
    (by_fields args.count (fields_of args.kind args.sender args.changes.now) args.places args.offset c.in_ok-room_refusal.ensures
    ∙ rw (← c.in_ok-kind.ensures, ← c.if-not-legal_fields.ensures))

pub returns : goal.returns
returns c =
    let args = c.args in
    sym
    (by_fields args.count (fields_of args.kind args.sender args.changes.now) args.places args.offset c.in_ok-room_refusal.ensures
    ∙ rw (← c.in_ok-kind.ensures, ← c.if-not-legal_fields.ensures))
