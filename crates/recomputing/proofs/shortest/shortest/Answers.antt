-- `recomputing::shortest::shortest` meets its contract. The invariant: what settling units, nearest first, has made of the arrays.
use native.Mathlib.Omega.{arith}
use mathlib.Core.Path.{◌≡◌}
use Rattle.recomputing.proofs.Rounds.{turned_none, turned_more, turned_all, turned_done}
use Rattle.recomputing.proofs.shortest.shortest.Goals as goal
use Rattle.recomputing.proofs.shortest.shortest.Goals.{in-Some, in_default}

pub loop-init : goal.loop-init
loop-init c = rw c.start-distances.ensures (turned_none c.requires.1)

pub loop-preserved : goal.loop-preserved
loop-preserved c =
    let here = c.loop in
    elim c.match-nearest.branch [
      | in-Some w ↦
          let known = w.in-Some.ensures in
          rw (w.distances-is, w.settled-is, w.relax-lower.ensures)
          (turned_more here.invariant known.nearest known.below c.requires.0 c.requires.1)
      | in_default w ↦
          rw (w.distances-is, w.settled-is) (turned_all here.invariant w.in_default.ensures.nearest (omega arith))
    ]

pub returns : goal.returns
returns c =
    let all : c.loop.counter ≡ c.args.count = omega arith in
    turned_done (rw all at c.loop.invariant) c.requires.2 c.requires.1
