-- `events::tell::tell_bytes` meets its contract, by what its callees ensure. Refused, it has used no byte: a refusal's number is below
-- what answers begin at.
use native.Mathlib.Omega.{arith}
use mathlib.Core.Path.{ap, ◌∙◌}
use Rattle.std.proofs.lemmas.Result.{err_from_is_err_and}
use Rattle.ground.specs.Limits.{firmware_room}
use Rattle.rules.specs.Hub.{table_answer}
use Rattle.unit.specs.Calls.{call_of}
use Rattle.ground.proofs.Answers.{number_below}
use Rattle.events.proofs.ToldUnit.{told_is}
use Rattle.events.proofs.tell.tell_bytes.Goals as goal

pub returns-in_err-told : goal.returns-in_err-told
returns-in_err-told c =
    let exit = err_from_is_err_and c.from_residual.result c.from_residual.ensures.1 in
    let args = c.args in
    let call = call_of args.call args.bytes.now in
    let answered = c.in_err-told.ensures in
    rw (exit.1, exit.2) (record {
      answer = answered.answer ∙ ap (λ table. table_answer table firmware_room call) c.load-told.ensures;
      told =
          told_is call c.load-told.ensures
          (omega (arith, answered.answer, number_below c.in_err-told.field-0.0), (answered.table, answered.sent));
    })

pub returns : goal.returns
returns c =
    let args = c.args in
    let call = call_of args.call args.bytes.now in
    let answered = c.in_ok-told.ensures in
    record {
      answer = answered.answer ∙ ap (λ table. table_answer table firmware_room call) c.load-told.ensures;
      told = told_is call c.load-told.ensures (omega (arith, answered.answer), (answered.table, answered.sent));
    }
