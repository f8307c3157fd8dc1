-- `state::questions::ask` meets its contract: each question's answer is that of its own function.
use Prim.Native.Nat.{ℕ}
use mathlib.Core.List.{List}
use mathlib.Core.Path.{◌≡◌, sym, ap, ◌∙◌}
use Rattle.state.specs.Asked.{asked_of}
use Rattle.state.specs.declared.questions.Question.{Question}
use Rattle.state.proofs.ListedAnswers.{successors_listed, link_listed, awaits_listed}
use Rattle.state.proofs.questions.ask.Goals as goal

-- The answer to a question that is known.
by_question : (table : List ℕ) (to : ℕ) {asked question : Question} → asked ≡ question
    → asked_of question table to ≡ asked_of asked table to
by_question table to e = ap (λ (question : Question). asked_of question table to) (sym e)

pub returns-in-Distance-clause-answer : goal.returns-in-Distance-clause-answer
returns-in-Distance-clause-answer c = c.distance.ensures.answer ∙ by_question c.args.table.now c.args.to c.in-Distance.is

pub returns-in-Feasible-clause-answer : goal.returns-in-Feasible-clause-answer
returns-in-Feasible-clause-answer c = c.feasible.ensures.answer ∙ by_question c.args.table.now c.args.to c.in-Feasible.is

pub returns-in-Successors-clause-answer : goal.returns-in-Successors-clause-answer
returns-in-Successors-clause-answer c =
    c.listed.ensures.answer
    ∙ successors_listed c.args.table.now c.args.to
    ∙ by_question c.args.table.now c.args.to c.in-Successors.is

pub returns-in-Link-clause-answer : goal.returns-in-Link-clause-answer
returns-in-Link-clause-answer c =
    c.listed-in-Link.ensures.answer
    ∙ link_listed c.args.table.now c.args.to
    ∙ by_question c.args.table.now c.args.to c.in-Link.is

pub returns-in-Awaits-clause-answer : goal.returns-in-Awaits-clause-answer
returns-in-Awaits-clause-answer c =
    c.listed-in-Awaits.ensures.answer
    ∙ awaits_listed c.args.table.now c.args.to
    ∙ by_question c.args.table.now c.args.to c.in-Awaits.is
