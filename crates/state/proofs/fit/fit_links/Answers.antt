-- `state::fit::fit_links` meets its contract: the chain asks the test of every link.
use borrow.Author.Rules.{rules}
use borrow.Author.Tests.{tests}
use Rattle.rules.specs.Unit.{fit_link}
use Rattle.ground.proofs.Chains.{all_below}
use Rattle.state.specs.Holding.{unit_of}
use Rattle.state.proofs.fit.fit_links.Goals as goal

pub returns : goal.returns
returns c =
    let unit = c.args.unit in
    all_below (fit_link (unit_of unit)) unit.count _ _ _ c.all.ensures.ran (λ x b q k. search (rules, tests))
