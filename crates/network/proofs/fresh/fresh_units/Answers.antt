-- `network::fresh::fresh_units` meets its contract. The invariant: the tables of the first i fresh units are laid.
use native.Mathlib.Omega.{arith}
use mathlib.Core.Path.{◌≡◌, refl, ◌∙◌}
use borrow.Author.Rules.{rules}
use Rattle.network.proofs.fresh.FreshTables.{fresh_more, fresh_all}
use Rattle.network.proofs.fresh.fresh_units.Goals as goal

pub loop-i-init : goal.loop-i-init
loop-i-init c = (search rules, refl, c.requires.2)

pub loop-i-preserved : goal.loop-i-preserved
loop-i-preserved c =
    let here = c.loop-i in (
      search rules,
      search rules,
      rw (c.put.ensures, c.fresh_table-table.ensures)
          (fresh_more c.args.count c.requires.1 here.i (omega arith) here.invariant.2),
    )

pub shape_of-words : goal.shape_of-words
shape_of-words c = c.loop-i.invariant.1

pub returns : goal.returns
returns c =
    let all : c.loop-i.i ≡ c.args.count = omega arith in
    (rw all at c.loop-i.invariant.2) ∙ fresh_all c.args.count c.requires.1
