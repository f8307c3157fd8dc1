-- `session::finish` meets its contract: the end of the input is as a newline where a byte is held.
use Rattle.session.proofs.Feeding.{finish_none, finish_some}
use Rattle.ground.proofs.Clauses.{heard_session, told_session}
use Rattle.session.proofs.finish.Goals as goal

pub returns-then-held-eq0 : goal.returns-then-held-eq0
returns-then-held-eq0 c =
    let a = c.args in
    told_session (finish_none a.words.now a.queues.now a.meter.now a.line.now a.held a.out.now a.used c.if-held-eq0.true)

pub returns : goal.returns
returns c =
    let a = c.args in
    told_session (finish_some a.words.now a.queues.now a.meter.now a.line.now a.held a.out.now a.used
    c.if-held-eq0.false (heard_session c.feed.ensures))
