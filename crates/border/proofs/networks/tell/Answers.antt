-- `border::networks::tell` meets its contract: each call is its own function.
use Rattle.ground.proofs.Clauses.{heard_answer_words_queues, told_answer_numbers_queues}
use Rattle.border.proofs.networks.tell.Goals as goal

pub returns-in-Up : goal.returns-in-Up
returns-in-Up c =
    told_answer_numbers_queues (rw c.in-Up.is (heard_answer_words_queues c.up.ensures))

pub returns-in-Cost : goal.returns-in-Cost
returns-in-Cost c =
    told_answer_numbers_queues (rw c.in-Cost.is (heard_answer_words_queues c.cost.ensures))

pub returns-in-Down : goal.returns-in-Down
returns-in-Down c =
    told_answer_numbers_queues (rw c.in-Down.is (heard_answer_words_queues c.down.ensures))

pub returns-in-Deliver : goal.returns-in-Deliver
returns-in-Deliver c =
    told_answer_numbers_queues (rw c.in-Deliver.is (heard_answer_words_queues c.deliver.ensures))
