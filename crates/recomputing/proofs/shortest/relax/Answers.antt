-- `recomputing::shortest::relax` meets its contract. The invariant: the array holds the lesser of distance and offer at each place passed, and zeros.
use native.Mathlib.Omega.{arith}
use Rattle.ground.specs.Limits.{unit_limit}
use Rattle.ground.proofs.Filling.{filling, filled_all}
use Rattle.recomputing.proofs.shortest.relax.Goals as goal
use Rattle.recomputing.proofs.shortest.relax.Goals.{then-offer-distances, else-offer-distances}

pub loop-j-preserved : goal.loop-j-preserved
loop-j-preserved c =
    let here = c.loop-j in
    let offer = c.plus-offer.ensures in
    filling unit_limit here.j _ here.invariant
    (elim c.if-offer-distances.branch [
      | then-offer-distances w ↦ omega (arith, offer)
      | else-offer-distances w ↦ omega (arith, offer)
    ]) (omega arith)

pub returns : goal.returns
returns c =
    filled_all unit_limit c.loop-j.j c.args.count _ c.loop-j.invariant (omega arith)
