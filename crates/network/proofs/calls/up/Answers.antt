-- `network::calls::up` meets its contract: past its first refusals it is an event at each end, in the network as it is.
use mathlib.Core.Bool.{false}
use mathlib.Core.Path.{refl}
use Rattle.std.proofs.lemmas.Result.{err_from_is_err_and}
use Rattle.ground.proofs.Answers.{number_some, number_below}
use Rattle.ground.proofs.Clauses.{heard_answer_words_queues, told_answer_words_queues}
use Rattle.network.proofs.calls.CallEvents.{up_refused, up_pair, up_never, up_never_back}
use Rattle.network.proofs.calls.TwoEvents.{both-answer}
use Rattle.network.proofs.calls.up.Goals as goal

pub returns-in_err-check_first : goal.returns-in_err-check_first
returns-in_err-check_first c =
    let s = c.args in
    let exit = err_from_is_err_and c.from_residual.result c.from_residual.ensures.1 in
    let refusal = c.in_err-check_first.field-0.0 in
    rw (exit.1, exit.2)
    (told_answer_words_queues (up_refused s.words.now s.queues.now s.a s.b s.cost_of_a s.cost_of_b
    c.are_legal_costs-legal.ensures c.in_err-check_first.ensures (number_some refusal)))

pub returns-in_err-tell_into : goal.returns-in_err-tell_into
returns-in_err-tell_into c =
    let s = c.args in
    absurd (up_never s.words.now s.queues.now s.a s.b s.cost_of_a s.cost_of_b c.are_legal_costs-legal.ensures
    c.in_ok-check_first.ensures refl c.in_err-tell_into.ensures.answer (number_below c.in_err-tell_into.field-0.0))

pub returns-in_err-tell_into-2 : goal.returns-in_err-tell_into-2
returns-in_err-tell_into-2 c =
    let s = c.args in
    absurd (up_never_back s.words.now s.queues.now s.a s.b s.cost_of_a s.cost_of_b c.are_legal_costs-legal.ensures
    c.in_ok-check_first.ensures refl c.in_err-tell_into-2.ensures.answer (number_below c.in_err-tell_into-2.field-0.0))

pub returns : goal.returns
returns c =
    let s = c.args in
    let events =
    up_pair s.words.now s.queues.now s.a s.b s.cost_of_a s.cost_of_b
    c.are_legal_costs-legal.ensures c.in_ok-check_first.ensures refl c.in_ok-tell_into.ensures.told c.in_ok-tell_into-2.ensures.told in
    told_answer_words_queues (both-answer events false events.first.tabled (heard_answer_words_queues c.at_both.ensures))
