-- `network::calls::deliver` meets its contract: past the refusals of the link and of the message it is one event, in
-- the network once that message is taken off its queue.
use mathlib.Core.Bool.{true}
use mathlib.Core.Path.{refl, ◌∙◌}
use native.Mathlib.Omega.{arith}
use Rattle.std.proofs.lemmas.Result.{err_from_is_err_and}
use Rattle.ground.proofs.Answers.{number_some, number_below}
use Rattle.ground.proofs.Clauses.{heard_answer_words_queues, told_answer_words_queues}
use Rattle.events.proofs.ToldUnit.{laid_first}
use Rattle.network.proofs.calls.Delivery.{refused_link, refused_told, deliver_one, first_popped}
use Rattle.network.proofs.calls.OneEvent.{one_answers}
use Rattle.network.proofs.calls.deliver.Goals as goal

pub returns-in_err-check_first : goal.returns-in_err-check_first
returns-in_err-check_first c =
    let s = c.args in
    let exit = err_from_is_err_and c.from_residual.result c.from_residual.ensures.1 in
    rw (exit.1, exit.2)
    (told_answer_words_queues (refused_link s.words.now s.queues.now s.a s.b
    c.in_err-check_first.ensures (number_some c.in_err-check_first.field-0.0)))

pub returns-in_err-tell_first_into : goal.returns-in_err-tell_first_into
returns-in_err-tell_first_into c =
    let s = c.args in
    let exit = err_from_is_err_and c.from_residual-in_err-tell_first_into.result c.from_residual-in_err-tell_first_into.ensures.1 in
    rw (exit.1, exit.2)
    (told_answer_words_queues (refused_told s.words.now s.queues.now s.a s.b c.in_ok-check_first.ensures refl
    c.in_err-tell_first_into.ensures.answer (number_below c.in_err-tell_first_into.field-0.0)))

pub returns : goal.returns
returns c =
    let s = c.args in
    let first = c.in_ok-check_first.ensures in
    let told = c.in_ok-tell_first_into.ensures in
    told_answer_words_queues (one_answers
    (deliver_one s.words.now s.queues.now s.a s.b first refl told.answer (omega arith)
    (told.told ∙ laid_first s.words.now s.queues.now s.a s.b _ told.answer (omega arith)))
    s.a true
    (first_popped s.words.now s.queues.now s.a s.b first refl)
    (heard_answer_words_queues c.at_one.ensures))
