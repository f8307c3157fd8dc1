-- `events::tell::tell_first` meets its contract: what was laid is handed out, unless it was refused.
use native.Mathlib.Omega.{arith}
use mathlib.Core.Path.{◌∙◌}
use Rattle.std.proofs.lemmas.Result.{err_from_is_err_and}
use Rattle.events.proofs.ToldUnit.{laid_first}
use Rattle.events.proofs.tell.tell_first.Goals as goal

pub returns-in_err-tell_first_into : goal.returns-in_err-tell_first_into
returns-in_err-tell_first_into c =
    let exit = err_from_is_err_and c.from_residual.result c.from_residual.ensures.1 in
    rw (exit.1, exit.2) (record { answer = c.in_err-tell_first_into.ensures.answer; told = tt })

pub returns : goal.returns
returns c =
    let s = c.args in
    let laid = c.in_ok-tell_first_into.ensures in
    record {
      answer = laid.answer;
      told = laid.told ∙ laid_first s.words.now s.queues.now s.a s.b _ laid.answer (omega arith);
    }
