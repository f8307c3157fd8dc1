-- `state::held::load` meets its contract: each row is the unit's by its call, and the copies are by `copies_loaded`.
use native.Mathlib.Omega.{arith}
use mathlib.Core.Path.{◌∙◌}
use Rattle.ground.specs.Rows.{at}
use Rattle.rules.specs.Tables.{unit_from}
use Rattle.state.proofs.Holding.{copies_loaded}
use Rattle.state.proofs.held.load.Goals as goal

pub overflow_cast-result : goal.overflow_cast-result
overflow_cast-result c = omega (arith, c.type_inv.table 1)

pub returns : goal.returns
unfolding unit_from
returns c =
    let words = c.args.table.now in
    let copies = c.copies.ensures ∙ copies_loaded words c.requires.1 c.requires.0 in
    λ i. record {
      count = at words 0;
      me = at words 1;
      costs = c.row.ensures i;
      awaited = c.row-2.ensures i;
      tree = c.row-3.ensures i;
      feasible = c.row-4.ensures i;
      copies = copies i;
    }
