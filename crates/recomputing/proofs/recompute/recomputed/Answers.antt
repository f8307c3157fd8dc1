-- `recomputing::recompute::recomputed` meets its contract: each step's array reads like its table, and the taken links are legal.
use mathlib.Core.Path.{sym, ap, ◌∙◌}
use native.Mathlib.Omega.{arith}
use Rattle.ground.specs.Limits.{unit_limit}
use Rattle.ground.specs.Rows.{filled}
use Rattle.recomputing.proofs.CopiedRows.{whole_of, not_counted, not_long}
use Rattle.recomputing.proofs.Recomputing.{Steps, links_positive, links_legal, distances_facts, tree_taken}
use Rattle.recomputing.proofs.Recomputing.{none_whole, none_placed}
use Rattle.recomputing.proofs.recompute.recomputed.Goals as goal
use Rattle.recomputing.proofs.recompute.recomputed.Goals.{After-taken_links-links}

pub returns-then-count-gt-UNITS : goal.returns-then-count-gt-UNITS
returns-then-count-gt-UNITS c =
    let args = c.args in
    sym (ap (filled unit_limit) (none_whole _ _ _ _ _ (not_counted args.count args.copies.now c.if-count-gt-UNITS.true)))

pub returns-then-copies-ne-COPIES : goal.returns-then-copies-ne-COPIES
returns-then-copies-ne-COPIES c =
    let args = c.args in
    sym (ap (filled unit_limit) (none_whole _ _ _ _ _ (not_long args.count args.copies.now c.if-copies-ne-COPIES.true)))

pub returns-then-count-me : goal.returns-then-count-me
returns-then-count-me c = sym (ap (filled unit_limit) (none_placed _ _ _ _ _ c.if-count-me.true))

-- What the steps up to the taken links have made.
steps : (c : After-taken_links-links)
    → Steps c.args.count c.args.me c.args.costs c.args.copies.now c.args.through c.taken_links-links.result
steps c =
    let args = c.args in
    record {
      whole = whole_of args.count args.copies.now (omega arith) c.if-copies-ne-COPIES.false;
      here = omega arith;
      taking = c.taken_links-links.ensures;
    }

pub shortest-distances-requires : goal.shortest-distances-requires
shortest-distances-requires c =
    (omega arith, omega arith, links_positive (steps (goal.at.shortest-distances-requires c).After-taken_links-links))

pub tree_over-requires : goal.tree_over-requires
tree_over-requires c =
    let s = steps (goal.at.tree_over-requires c).After-taken_links-links in
    (omega arith, omega arith, links_positive s, links_legal s, distances_facts s c.shortest-distances.ensures)

pub returns : goal.returns
returns c =
    c.tree_over.ensures
    ∙ ap (filled unit_limit) (tree_taken (steps (goal.at.returns c).After-taken_links-links) c.shortest-distances.ensures)
