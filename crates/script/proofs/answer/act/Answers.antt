-- `script::answer::act` meets its contract: each command is its own call.
use mathlib.Core.Path.{refl, ap}
use Rattle.std.specs.Prelude.{Some}
use Rattle.script.specs.Acting.{act_meter}
use Rattle.script.specs.Answers.{words_then, bytes_then}
use Rattle.script.proofs.Verdicts.{not_acted}
use Rattle.ground.proofs.Clauses.{heard_answer_words_queues, heard_answer_words_queues_meter, told_answer_words_queues_meter}
use Rattle.script.proofs.answer.act.Goals as goal

pub returns-in-Units : goal.returns-in-Units
unfolding words_then bytes_then act_meter
returns-in-Units c =
    let did = heard_answer_words_queues_meter c.begin.ensures in
    told_answer_words_queues_meter (rw c.in-Units.is (ap Some did.0, did.1))

pub returns-in-Up : goal.returns-in-Up
unfolding words_then bytes_then act_meter
returns-in-Up c =
    let did = (heard_answer_words_queues c.up.ensures) in
    told_answer_words_queues_meter (rw c.in-Up.is (ap Some did.0, (did.1.0, (did.1.1, refl))))

pub returns-in-Cost : goal.returns-in-Cost
unfolding words_then bytes_then act_meter
returns-in-Cost c =
    let did = (heard_answer_words_queues c.cost.ensures) in
    told_answer_words_queues_meter (rw c.in-Cost.is (ap Some did.0, (did.1.0, (did.1.1, refl))))

pub returns-in-Down : goal.returns-in-Down
unfolding words_then bytes_then act_meter
returns-in-Down c =
    let did = (heard_answer_words_queues c.down.ensures) in
    told_answer_words_queues_meter (rw c.in-Down.is (ap Some did.0, (did.1.0, (did.1.1, refl))))

pub returns-in-Deliver : goal.returns-in-Deliver
unfolding words_then bytes_then act_meter
returns-in-Deliver c =
    let did = (heard_answer_words_queues c.deliver.ensures) in
    told_answer_words_queues_meter (rw c.in-Deliver.is (ap Some did.0, (did.1.0, (did.1.1, refl))))

pub returns-in_default : goal.returns-in_default
returns-in_default c =
    told_answer_words_queues_meter
    (not_acted _ _ _ c.args.command c.in_default.not-Units c.in_default.not-Up c.in_default.not-Cost c.in_default.not-Down
    c.in_default.not-Deliver)
