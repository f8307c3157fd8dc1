-- `unit::calls::answer` meets its contract: what it refuses it leaves alone; else its reaction is the rules'.
use Prim.Native.Nat.{ℕ}
use mathlib.Core.List.{List}
use mathlib.Core.Path.{◌≡◌, sym}
use lib.ListN.{length}
use Rattle.ground.specs.Refusal.{accepted}
use Rattle.std.proofs.lemmas.Result.{err_from_is_err_and}
use Rattle.rules.specs.Hub.{table_refusal}
use Rattle.unit.specs.Calls.{call_of}
use Rattle.unit.specs.declared.calls.Call.{Call}
use Rattle.state.proofs.QuestionAnswers.{loadable}
use Rattle.unit.proofs.FinishedCalls.{refused_call, accepted_call}
use Rattle.unit.proofs.ReadyCalls.{Ready, ready_of, notable, ready, owed_other, same_reaction}
use Rattle.unit.proofs.calls.answer.Goals as goal

-- A call that nothing refuses is ready.
known : (words : List ℕ) (room : ℕ) (call : Call) (bytes : List ℕ) → accepted ≡ table_refusal words room (call_of call bytes)
    → Ready words room call bytes
known words room call bytes none = ready_of words room call bytes (sym none)

pub returns-in_err-check : goal.returns-in_err-check
returns-in_err-check c =
    let passed = err_from_is_err_and c.from_residual.result c.from_residual.ensures.1 in
    let args = c.args in
    let told = refused_call args.table.now args.out.now (call_of args.call args.bytes.now) c.in_err-check.field-0.0 c.in_err-check.ensures in
    rw (passed.1, passed.2) (record { answer = told.0; short = tt; table = told.1.0; sent = told.1.1 })

pub note-noted-requires : goal.note-noted-requires
note-noted-requires c =
    let args = c.args in
    notable _ _ _ _
    (known args.table.now (length args.out.now) args.call args.bytes.now c.in_ok-check.ensures)
    c.unit_in-unit.ensures

pub finish-requires : goal.finish-requires
finish-requires c =
    let args = c.args in
    let here =
    known args.table.now (length args.out.now) args.call args.bytes.now c.in_ok-check.ensures in
    let loaded = c.unit_in-unit.ensures in
    let noted = c.note-noted.ensures in
    (ready _ _ _ _ here loaded noted, (loadable _ here.fit).0, owed_other _ _ _ _ here loaded noted, here.enough)

pub returns : goal.returns
returns c =
    let args = c.args in
    let here =
    known args.table.now (length args.out.now) args.call args.bytes.now c.in_ok-check.ensures in
    let done = c.finish.ensures in
    let told =
    accepted_call args.table.now args.out.now (call_of args.call args.bytes.now) _
    (same_reaction _ _ _ _ here c.unit_in-unit.ensures c.note-noted.ensures c.is_active-was.ensures)
    (sym c.in_ok-check.ensures)
    done.answer done.table done.sent in
    record { answer = told.0; short = done.short; table = told.1.0; sent = told.1.1 }
