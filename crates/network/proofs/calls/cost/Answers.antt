-- `network::calls::cost` meets its contract: past its first refusals it is one event, in the network as it is.
use mathlib.Core.Bool.{false}
use mathlib.Core.Path.{refl}
use Rattle.std.proofs.lemmas.Result.{err_from_is_err_and}
use Rattle.ground.proofs.Answers.{number_some, number_below}
use Rattle.ground.proofs.Clauses.{heard_answer_words_queues, told_answer_words_queues}
use Rattle.network.proofs.calls.CallEvents.{cost_refused, cost_one, cost_never}
use Rattle.network.proofs.calls.OneEvent.{one_answers}
use Rattle.network.proofs.calls.cost.Goals as goal

pub returns-in_err-check_first : goal.returns-in_err-check_first
returns-in_err-check_first c =
    let s = c.args in
    let exit = err_from_is_err_and c.from_residual.result c.from_residual.ensures.1 in
    rw (exit.1, exit.2)
    (told_answer_words_queues (cost_refused s.words.now s.queues.now s.a s.b s.new_cost c.is_legal_cost.ensures
    c.in_err-check_first.ensures (number_some c.in_err-check_first.field-0.0)))

pub returns-in_err-tell_into : goal.returns-in_err-tell_into
returns-in_err-tell_into c =
    let s = c.args in
    absurd (cost_never s.words.now s.queues.now s.a s.b s.new_cost c.is_legal_cost.ensures
    c.in_ok-check_first.ensures refl c.in_err-tell_into.ensures.answer (number_below c.in_err-tell_into.field-0.0))

pub returns : goal.returns
returns c =
    let s = c.args in
    let event =
    cost_one s.words.now s.queues.now s.a s.b s.new_cost c.is_legal_cost.ensures
    c.in_ok-check_first.ensures refl c.in_ok-tell_into.ensures.told in
    told_answer_words_queues (one_answers event s.b false event.tries.tabled (heard_answer_words_queues c.at_one.ensures))
