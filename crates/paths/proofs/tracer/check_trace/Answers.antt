-- `paths::tracer::check_trace` meets its contract. The tests are the definition's, in its order.
use native.Mathlib.Omega.{arith}
use mathlib.Core.Bool.{false}
use mathlib.Core.Path.{◌≡◌, sym, ◌∙◌}
use Rattle.rules.specs.Tables.{fit_tables}
use Rattle.fitness.proofs.SuccessorSets.{fit_sized}
use Rattle.paths.proofs.TraceAnswers.{no_start, no_destination, path_too_short, choices_too_short, none_applies}
use Rattle.paths.proofs.tracer.check_trace.Goals as goal
use Rattle.paths.proofs.tracer.check_trace.Goals.{then-words-start-via-then-words-start, then-words-start-via-else-words-start+then-words-destination}
use Rattle.paths.proofs.tracer.check_trace.Goals.{then-path-count-via-then-path-count, then-path-count-via-else-path-count+then-choices-count}

pub returns-then-not-is_fit : goal.returns-then-not-is_fit
returns-then-not-is_fit c =
    let unfit : fit_tables c.args.words.now c.args.queues.now ≡ false = sym c.is_fit.ensures ∙ c.if-not-is_fit.true in
    rw unfit

pub bounds-words-0 : goal.bounds-words-0
bounds-words-0 c = omega (arith, (fit_sized _ _ (sym c.is_fit.ensures ∙ c.if-not-is_fit.false)).long)

pub returns-then-words-start : goal.returns-then-words-start
returns-then-words-start c =
    let args = c.args in
    let fits = sym c.is_fit.ensures ∙ c.if-not-is_fit.false in
    elim c.then-words-start.branch [
      | then-words-start-via-then-words-start w ↦
          sym (no_start _ _ _ _ args.choices.now args.path.now fits w.if-words-start.true)
      | then-words-start-via-else-words-start+then-words-destination w ↦
          sym (no_destination _ _ _ _ args.choices.now args.path.now fits w.if-words-destination.true)
    ]

pub returns-then-path-count : goal.returns-then-path-count
returns-then-path-count c =
    let args = c.args in
    let fits = sym c.is_fit.ensures ∙ c.if-not-is_fit.false in
    elim c.then-path-count.branch [
      | then-path-count-via-then-path-count w ↦
          sym
          (path_too_short _ _ _ _ args.choices.now args.path.now fits c.if-words-start.false c.if-words-destination.false
          w.if-path-count.true)
      | then-path-count-via-else-path-count+then-choices-count w ↦
          sym
          (choices_too_short _ _ _ _ args.choices.now args.path.now fits c.if-words-start.false c.if-words-destination.false
          w.if-choices-count.true)
    ]

pub returns : goal.returns
returns c =
    sym
    (none_applies _ _ _ _ c.args.choices.now c.args.path.now (sym c.is_fit.ensures ∙ c.if-not-is_fit.false)
    c.if-words-start.false c.if-words-destination.false c.if-path-count.false c.if-choices-count.false)
