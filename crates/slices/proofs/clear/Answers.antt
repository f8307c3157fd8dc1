-- `slices::clear` meets its contract. The invariant: the first are zero, the rest as they were.
use Rattle.slices.proofs.Cleared.{clearing_none, clearing_more, clearing_all}
use Rattle.slices.proofs.clear.Goals as goal

pub loop-number-init : goal.loop-number-init
loop-number-init g c = clearing_none _ _

pub loop-number-preserved : goal.loop-number-preserved
loop-number-preserved g c =
    rw c.zero.ensures (clearing_more _ c.loop-number.invariant c.loop-number-test.true)

pub returns : goal.returns
returns g c = clearing_all _ c.loop-number.invariant c.loop-number-test.false
