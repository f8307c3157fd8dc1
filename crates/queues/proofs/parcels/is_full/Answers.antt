-- `queues::parcels::is_full` meets its contract: where there is a parcel, its queue is looked at.
use borrow.Author.Tests.{eq-eqb, ne_eqb}
use Rattle.queues.proofs.parcels.is_full.Goals as goal

pub returns-then-parcel-eq0 : goal.returns-then-parcel-eq0
returns-then-parcel-eq0 c = rw (eq-eqb c.args.parcel 0 c.if-parcel-eq0.true)

pub returns : goal.returns
returns c =
    let args = c.args in
    rw (ne_eqb args.parcel 0 c.if-parcel-eq0.false, c.held.ensures, c.load-queue.ensures)
