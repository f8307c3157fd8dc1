-- `recomputing::links::own_row` meets its contract. The invariant: the array holds the links passed, and zeros.
use native.Mathlib.Omega.{arith}
use Rattle.ground.specs.Limits.{unit_limit}
use Rattle.ground.proofs.Filling.{filling, filled_all}
use Rattle.recomputing.proofs.links.own_row.Goals as goal

pub loop-j-preserved : goal.loop-j-preserved
loop-j-preserved c =
    let here = c.loop-j in
    filling unit_limit here.j _ here.invariant c.legal_link.ensures (omega arith)

pub returns : goal.returns
returns c =
    filled_all unit_limit c.loop-j.j c.args.count _ c.loop-j.invariant (omega arith)
