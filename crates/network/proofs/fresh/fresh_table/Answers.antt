-- `network::fresh::fresh_table` meets its contract: the unit refuses nothing, and lays its fresh table.
use borrow.Author.Tests.{lt-ltb}
use Rattle.ground.proofs.Limits.{count_legal}
use Rattle.rules.specs.Hub.{fresh_table}
use Rattle.network.proofs.fresh.fresh_table.Goals as goal

pub returns : goal.returns
unfolding fresh_table
returns c =
    let legal = count_legal c.args.count c.requires.0 c.requires.1 in
    let own = lt-ltb c.args.i c.args.count c.requires.2 in
    rw (c.fresh.ensures.table, legal, own)
