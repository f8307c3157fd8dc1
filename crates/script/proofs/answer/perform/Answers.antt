-- `script::answer::perform` meets its contract: `show` and `page` print the tables, any other command what its answer says.
use mathlib.Core.Path.{refl}
use Rattle.ground.proofs.Clauses.{heard_answer_out, heard_answer_words_queues_meter, told_performed}
use Rattle.script.specs.Answers.{printed, words_then, bytes_then, meter_then}
use Rattle.script.proofs.Verdicts.{fate_put, verdict_put, bad_put}
use Rattle.script.proofs.answer.perform.Goals as goal

pub returns-in-Show : goal.returns-in-Show
unfolding printed words_then bytes_then meter_then
returns-in-Show c =
    told_performed (rw c.in-Show.is (c.show.ensures.answer, (c.show.ensures.out, (refl, (refl, refl)))))

pub returns-in-Page : goal.returns-in-Page
unfolding printed words_then bytes_then meter_then
returns-in-Page c =
    told_performed (rw c.in-Page.is (c.page.ensures.answer, (c.page.ensures.out, (refl, (refl, refl)))))

pub returns-in-Some : goal.returns-in-Some
returns-in-Some c =
    let a = c.args in
    let did = c.in-Some.ensures in
    told_performed
    (fate_put a.words.now a.queues.now a.meter.now a.out.now a.used a.command c.in-Some.fate did.answer did.inside did.meter
    (heard_answer_out c.put_fate.ensures))

pub returns-in-Some-act : goal.returns-in-Some-act
returns-in-Some-act c =
    let a = c.args in
    told_performed
    (verdict_put a.words.now a.queues.now a.meter.now a.out.now a.used a.command c.frame_act.ensures.meter
    c.in-Some-act.done (heard_answer_words_queues_meter c.in-Some-act.ensures) (heard_answer_out c.put_verdict.ensures))

-- What neither answers is not `show`, and not `page`.
pub returns : goal.returns
returns c =
    let a = c.args in
    let none = c.in_default-frame_act.ensures in
    told_performed
    (bad_put a.words.now a.queues.now a.meter.now a.out.now a.used a.command none.meter c.in_default.not-Show
    c.in_default-command.not-Page none.answer (heard_answer_words_queues_meter c.in_default-act.ensures)
    (heard_answer_out c.put_text.ensures))
