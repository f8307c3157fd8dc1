-- `state::fit::fit_feasible` meets its contract: the chain asks the test of every feasible distance.
use mathlib.Core.Path.{◌∙◌}
use borrow.Author.Rules.{rules}
use borrow.Author.Tests.{tests}
use Rattle.ground.proofs.Chains.{all_below}
use Rattle.state.proofs.Fitness.{feasible_test, feasible-test}
use Rattle.state.proofs.fit.fit_feasible.Goals as goal

pub returns : goal.returns
returns c =
    let unit = c.args.unit in
    all_below (feasible_test unit.me unit.feasible) unit.count _ _ _ c.all.ensures.ran (λ x b q k. search (rules, tests))
    ∙ feasible-test unit
