-- `paths::tracer::trace` meets its contract: it is the refusal, or what the loop gives.
use Rattle.std.proofs.lemmas.Result.{err_from_is_err_and}
use Rattle.ground.proofs.Clauses.{told_answer_path}
use Rattle.paths.proofs.TraceAnswers.{traceable, as_traced, as_refused}
use Rattle.paths.proofs.tracer.trace.Goals as goal

pub returns-in_err-check_trace : goal.returns-in_err-check_trace
returns-in_err-check_trace c =
    let args = c.args in
    let exit = err_from_is_err_and c.from_residual.result c.from_residual.ensures.1 in
    let failed = c.in_err-check_trace in
    rw (exit.1, exit.2)
    (told_answer_path (as_refused _ _ _ _ args.choices.now args.path.now failed.field-0.0 failed.ensures))

pub follow-requires : goal.follow-requires
follow-requires c =
    let args = c.args in
    traceable _ _ _ _ args.choices.now args.path.now c.in_ok-check_trace.ensures

pub returns : goal.returns
returns c =
    let args = c.args in
    told_answer_path
    (as_traced _ _ _ _ args.choices.now args.path.now c.in_ok-check_trace.ensures c.follow.result c.follow.ensures.answer
    c.follow.ensures.path)
