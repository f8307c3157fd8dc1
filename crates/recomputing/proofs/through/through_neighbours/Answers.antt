-- `recomputing::through::through_neighbours` meets its contract. The invariant: the array holds the rows passed, and rows of zeros.
use native.Mathlib.Omega.{arith}
use mathlib.Core.List.{[]}
use mathlib.Core.Path.{◌≡◌, sym, ap, ◌∙◌}
use Rattle.ground.specs.Limits.{unit_limit}
use Rattle.ground.specs.Rows.{filled, filled_rows}
use Rattle.tree.specs.Recompute.{through_neighbours}
use Rattle.ground.proofs.Filling.{filling_rows, filled_all_rows}
use Rattle.ground.proofs.Tests.{if_true}
use lib.ListN.{length}
use Rattle.recomputing.specs.Flat.{flat_length}
use Rattle.recomputing.proofs.CopiedRows.{through_none, whole_of, not_counted, not_long, row_distances, through_down, through_up}
use Rattle.recomputing.proofs.through.through_neighbours.Goals as goal
use Rattle.recomputing.proofs.through.through_neighbours.Goals.{then-costs-k-eq0, else-costs-k-eq0}

pub returns-then-count-gt-UNITS : goal.returns-then-count-gt-UNITS
returns-then-count-gt-UNITS c =
    let args = c.args in
    sym (ap (filled_rows unit_limit)
    (through_none args.count args.costs args.copies.now (not_counted args.count args.copies.now c.if-count-gt-UNITS.true)))

pub returns-then-copies-ne-COPIES : goal.returns-then-copies-ne-COPIES
returns-then-copies-ne-COPIES c =
    let args = c.args in
    sym (ap (filled_rows unit_limit)
    (through_none args.count args.costs args.copies.now (not_long args.count args.copies.now c.if-copies-ne-COPIES.true)))

pub loop-k-preserved : goal.loop-k-preserved
loop-k-preserved c =
    let a = c.args in
    let here = c.loop-k in
    let k = here.k in
    let flat = a.copies.now in
    let long : length flat ≡ flat_length = c.if-copies-ne-COPIES.false in
    elim c.if-costs-k-eq0.branch [
      | then-costs-k-eq0 w ↦
          w.rows-is ∙ filling_rows unit_limit k _ here.invariant
          (w.far_row.ensures ∙ ap (filled unit_limit) (through_down a.count a.costs flat k w.if-costs-k-eq0.true))
          (omega arith)
      | else-costs-k-eq0 w ↦
          w.rows-is ∙ filling_rows unit_limit k _ here.invariant
          (w.distances.ensures
          ∙ row_distances a.count flat k long (omega arith) (omega arith)
          ∙ ap (filled unit_limit) (through_up a.count a.costs flat k (omega arith) w.if-costs-k-eq0.false))
          (omega arith)
    ]

pub returns : goal.returns
unfolding through_neighbours
returns c =
    let args = c.args in
    filled_all_rows unit_limit c.loop-k.k args.count _ c.loop-k.invariant (omega arith)
    ∙ sym (ap (filled_rows unit_limit) (if_true _ _ [] (whole_of args.count args.copies.now (omega arith) c.if-copies-ne-COPIES.false)))
