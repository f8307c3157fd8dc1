-- `paths::tracer::trace_number` meets its contract: the number is the answer's.
use mathlib.Core.Path.{◌∙◌}
use Rattle.paths.proofs.TraceAnswers.{numbered_as, number_low}
use Rattle.paths.proofs.tracer.trace_number.Goals as goal

pub number_of-requires : goal.number_of-requires
number_of-requires c =
    let args = c.args in
    number_low _ _ _ _ args.choices.now args.path.now c.trace.result c.trace.ensures.answer

pub returns : goal.returns
returns c =
    let args = c.args in
    record {
      answer =
          c.number_of.ensures
          ∙ numbered_as _ _ _ _ args.choices.now args.path.now c.trace.result c.trace.ensures.answer;
      path = c.trace.ensures.path;
    }
