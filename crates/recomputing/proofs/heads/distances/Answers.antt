-- `recomputing::heads::distances` meets its contract. The invariant: the array holds the distances passed, and zeros.
use native.Mathlib.Omega.{arith}
use mathlib.Core.Path.{sym, ap, ◌∙◌}
use borrow.Author.Rules.{rules}
use lib.Seq.{length-take-le}
use Rattle.ground.specs.Limits.{unit_limit}
use Rattle.ground.specs.Rows.{filled}
use Rattle.ground.proofs.Filling.{filling, filled_all}
use Rattle.ground.proofs.Limits.{counted_all, counted_none}
use Rattle.recomputing.proofs.heads.distances.Goals as goal

pub returns-then-count-gt-UNITS : goal.returns-then-count-gt-UNITS
returns-then-count-gt-UNITS c = sym (ap (filled unit_limit) (counted_none c.args.count _ c.if-count-gt-UNITS.true))

pub slice_bounds-distance-end : goal.slice_bounds-distance-end
slice_bounds-distance-end c = sym (length-take-le _ _ (search rules))

pub loop-j-preserved : goal.loop-j-preserved
loop-j-preserved c =
    let here = c.loop-j in
    filling unit_limit here.j _ here.invariant c.distance.ensures (omega arith)

pub returns : goal.returns
returns c =
    let args = c.args in
    filled_all unit_limit c.loop-j.j args.count _ c.loop-j.invariant (omega arith)
    ∙ sym (ap (filled unit_limit) (counted_all args.count _ (omega arith)))
