-- `unit::refusing::check_first` meets its contract: each return is the refusal that the tests before it lead to.
use mathlib.Core.Path.{sym, ◌∙◌}
use Rattle.std.proofs.lemmas.Result.{err_from_is_err_and}
use Rattle.unit.proofs.LinkRefusals.{ends_first, cost_next, link_next, room_next, room_short, room_enough}
use Rattle.unit.proofs.refusing.check_first.Goals as goal

pub returns-in_err-check_end : goal.returns-in_err-check_end
returns-in_err-check_end c =
    let passed = err_from_is_err_and c.from_residual.result c.from_residual.ensures.1 in
    let args = c.args in
    rw (passed.1, passed.2)
    (ends_first args.table.now args.room args.to args.legal args.asks c.in_err-check_end.field-0.0 c.in_err-check_end.ensures)

pub returns-then-not-legal : goal.returns-then-not-legal
returns-then-not-legal c =
    let args = c.args in
    cost_next args.table.now args.room args.to args.legal args.asks c.in_ok-check_end.ensures c.if-not-legal.true

pub cost_to-requires : goal.cost_to-requires
cost_to-requires c = sym c.in_ok-check_end.ensures

pub returns-in_err-link_refusal : goal.returns-in_err-link_refusal
returns-in_err-link_refusal c =
    let passed = err_from_is_err_and c.from_residual-in_err-link_refusal.result c.from_residual-in_err-link_refusal.ensures.1 in
    let args = c.args in
    rw (passed.1, passed.2)
    (link_next args.table.now args.room args.to args.legal args.asks c.in_ok-check_end.ensures c.if-not-legal.false c.cost_to.ensures
    c.in_err-link_refusal.field-0.0 c.in_err-link_refusal.ensures)

pub returns-then-room-lt-FIRMWARE_ROOM : goal.returns-then-room-lt-FIRMWARE_ROOM
returns-then-room-lt-FIRMWARE_ROOM c =
    let args = c.args in
    sym (room_short _ c.if-room-lt-FIRMWARE_ROOM.true)
    ∙ room_next args.table.now args.room args.to args.legal args.asks c.in_ok-check_end.ensures
    c.if-not-legal.false c.cost_to.ensures c.in_ok-link_refusal.ensures

pub returns : goal.returns
returns c =
    let args = c.args in
    sym (room_enough _ c.if-room-lt-FIRMWARE_ROOM.false)
    ∙ room_next args.table.now args.room args.to args.legal args.asks c.in_ok-check_end.ensures
    c.if-not-legal.false c.cost_to.ensures c.in_ok-link_refusal.ensures
