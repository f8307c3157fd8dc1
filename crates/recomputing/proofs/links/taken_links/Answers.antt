-- `recomputing::links::taken_links` meets its contract. The invariant: the array holds the rows passed, and rows of zeros.
use Prim.Native.Nat.{ℕ, ◌<◌}
use native.Mathlib.Omega.{arith}
use mathlib.Core.List.{List}
use mathlib.Core.Path.{sym, ap, ◌∙◌}
use Rattle.ground.specs.Limits.{unit_limit}
use Rattle.ground.specs.Rows.{at, tab, filled}
use Rattle.tree.specs.Recompute.{preferred}
use Rattle.recomputing.specs.Flat.{row_in}
use Rattle.recomputing.specs.Legal.{link_from, legal_taken}
use Rattle.ground.proofs.Filling.{filling_rows, filled_all_rows}
use Rattle.recomputing.proofs.CopiedRows.{taken_row, taken_own, taken_none, taken_copied}
use Rattle.recomputing.proofs.links.taken_links.Goals as goal
use Rattle.recomputing.proofs.links.taken_links.Goals.{then-i-me, else-i-me+in-Some, else-i-me+in_default}

pub loop-i-preserved : goal.loop-i-preserved
loop-i-preserved c =
    let a = c.args in
    let here = c.loop-i in
    let i = here.i in
    let flat = a.copies.now in
    let preferences = preferred a.count a.costs a.through in
    let row = taken_row a.count a.me a.costs flat preferences in
    let inside : i < a.count = c.loop-i-test.true in
    elim c.if-i-me.branch [
      | then-i-me w ↦
          w.rows-is ∙ filling_rows unit_limit i row here.invariant
          (w.own_row.ensures
          ∙ ap (filled unit_limit) (taken_own a.count a.me a.costs flat preferences i inside w.if-i-me.true))
          (omega arith)
      | else-i-me+in-Some w ↦
          let k = w.in-Some.k in
          let known = w.in-Some.ensures in
          w.rows-is ∙ filling_rows unit_limit i row here.invariant
          (w.copied_row.ensures
          ∙ ap (λ (copy : List ℕ). filled unit_limit (tab a.count (λ j. link_from i (at copy j)))) w.copy_of.ensures
          ∙ ap (λ (q : ℕ). filled unit_limit (tab a.count (λ j. link_from i (at (row_in flat q) j)))) known.preferred
          ∙ ap (filled unit_limit)
          (taken_copied a.count a.me a.costs flat preferences i inside c.requires.1 (omega arith) w.if-i-me.false
          (omega (arith, known.below, known.preferred))))
          (omega arith)
      | else-i-me+in_default w ↦
          w.rows-is ∙ filling_rows unit_limit i row here.invariant
          (w.far_row.ensures
          ∙ ap (filled unit_limit)
          (taken_none a.count a.me a.costs flat preferences i inside w.if-i-me.false (sym w.in_default.ensures.preferred)))
          (omega arith)
    ]

pub returns : goal.returns
unfolding legal_taken
returns c =
    filled_all_rows unit_limit c.loop-i.i c.args.count _ c.loop-i.invariant (omega arith)
