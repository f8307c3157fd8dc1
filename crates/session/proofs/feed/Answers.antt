-- `session::feed` meets its contract. The invariant: what is lent goes on as it would have from the start.
use mathlib.Core.Path.{refl, ◌∙◌}
use borrow.Author.Rules.{rules}
use Rattle.session.proofs.Feeding.{done_full, done_whole}
use Rattle.session.proofs.Turning.{ready_told}
use Rattle.ground.proofs.Clauses.{told_session}
use Rattle.session.proofs.feed.Goals as goal

pub loop-reached-init : goal.loop-reached-init
loop-reached-init c = (refl, refl, refl, refl, refl, refl)

pub returns-then-not-goes_on : goal.returns-then-not-goes_on
returns-then-not-goes_on c =
    let a = c.args in
    let now = c.loop-reached in
    told_session (done_full a.words.now a.queues.now a.meter.now a.line.now a.held a.chunk.now a.place a.out.now
    a.used now.words now.queues now.meter now.line now.out now.reached now.invariant.5
    c.goes_on.ensures c.if-not-goes_on.true)

pub turn-reached-requires : goal.turn-reached-requires
turn-reached-requires c =
    (c.loop-reached-test.true, ready_told _ _ _ _ c.goes_on.ensures c.if-not-goes_on.false)

pub loop-reached-preserved : goal.loop-reached-preserved
loop-reached-preserved c =
    (search rules, search rules, search rules, search rules, search rules, c.turn-reached.ensures.same ∙ c.loop-reached.invariant.5)

pub returns : goal.returns
returns c =
    let a = c.args in
    let now = c.loop-reached in
    told_session (done_whole a.words.now a.queues.now a.meter.now a.line.now a.held a.chunk.now a.place a.out.now
    a.used now.words now.queues now.meter now.line now.out now.reached now.invariant.5 c.loop-reached-test.false)
