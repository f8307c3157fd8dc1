-- `meter::questions::ask_figure` meets its contract.
use mathlib.Core.Path.{sym}
use Rattle.meter.proofs.MeterAnswers.{figure_unfit, figure_small, figure_answered}
use Rattle.meter.proofs.questions.ask_figure.Goals as goal

pub returns-then-not-is_fit-clause-answer : goal.returns-then-not-is_fit-clause-answer
returns-then-not-is_fit-clause-answer c =
    let args = c.args in
    figure_unfit args.words.now args.queues.now args.meter.now (sym c.if-not-is_fit.ensures) args.which

pub returns : goal.returns
returns c =
    let args = c.args in
    let fit = sym c.if-not-is_fit.ensures in
    record {
      answer = figure_answered args.words.now args.queues.now args.meter.now fit args.which c.figure_in.ensures;
      small = figure_small args.words.now args.queues.now args.meter.now fit args.which c.figure_in.ensures;
    }
