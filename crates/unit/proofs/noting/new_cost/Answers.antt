-- `unit::noting::new_cost` meets its contract. The cost is stored by `row_stored`.
use mathlib.Core.Path.{ap}
use lib.ListN.{set}
use Rattle.rules.specs.Event.{noted}
use Rattle.state.specs.Holding.{unit_of}
use Rattle.state.specs.declared.held.Held.{Held}
use Rattle.unit.proofs.NotedArrays.{row_stored, links_held}
use Rattle.unit.proofs.noting.new_cost.Goals as goal

pub returns : goal.returns
unfolding noted
returns c =
    let h = c.args.unit in
    let p = c.requires.0 in
    let k = c.args.k in
    links_held h p (set (unit_of h).costs k c.args.cost) (unit_of h).awaited (unit_of h).copies
    c.with_links.ensures
    (row_stored h.count p.count h.costs k c.args.cost (ap (λ (g : Held). g.costs) p.zeros) c.requires.1)
    (ap (λ (g : Held). g.awaited) p.zeros)
    (ap (λ (g : Held). g.copies) p.zeros)
