-- `fitness::fit::Measured::fit_pairs` meets its contract, by what `all` finds over a range.
use Rattle.std.proofs.Common.{rules, tests}
use Rattle.fitness.specs.PartsFit.{fit_pair}
use Rattle.ground.proofs.Chains.{all_below}
use Rattle.fitness.proofs.fit.Measured.fit_pairs.Goals as goal

pub returns : goal.returns
returns c =
    let args = c.args in
    all_below (fit_pair args.self.now.words.now args.self.now.queues.now args.self.now.count args.a) args.self.now.count _ _ _ c.all.ensures.ran (λ x b q k. search (rules, tests))
