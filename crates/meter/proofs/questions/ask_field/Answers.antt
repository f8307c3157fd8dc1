-- `meter::questions::ask_field` meets its contract.
use mathlib.Core.Path.{sym, ◌∙◌}
use Rattle.std.proofs.lemmas.Result.{err_from_is_err_and}
use Rattle.meter.proofs.Found.{ok_or_ok, ok_or_err}
use Rattle.meter.proofs.MeterAnswers.{field_unfit, field_free, field_small, field_answered}
use Rattle.meter.proofs.questions.ask_field.Goals as goal

pub returns-then-not-is_fit-clause-answer : goal.returns-then-not-is_fit-clause-answer
returns-then-not-is_fit-clause-answer c =
    let args = c.args in
    field_unfit args.words.now args.queues.now args.meter.now (sym c.if-not-is_fit.ensures) args.which args.place

pub returns-in_err-frame : goal.returns-in_err-frame
returns-in_err-frame c =
    let args = c.args in
    let passed = err_from_is_err_and c.from_residual.result c.from_residual.ensures.1 in
    let told = ok_or_err c.held_at.result _ _ c.in_err-frame.ensures.value in
    rw (passed.1, passed.2, told.0)
    (record {
      answer =
          field_free args.words.now args.queues.now args.meter.now (sym c.if-not-is_fit.ensures) args.place args.which
          (told.1 ∙ c.held_at.ensures);
      small = tt;
    })

pub returns : goal.returns
returns c =
    let args = c.args in
    let fit = sym c.if-not-is_fit.ensures in
    let found = ok_or_ok c.held_at.result _ _ c.in_ok-frame.ensures.value ∙ c.held_at.ensures in
    record {
      answer =
          field_answered args.words.now args.queues.now args.meter.now fit args.place c.in_ok-frame.frame found args.which
          c.field_of.ensures;
      small =
          field_small args.words.now args.queues.now args.meter.now fit args.place c.in_ok-frame.frame found args.which
          c.field_of.ensures;
    }
