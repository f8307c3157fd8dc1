-- `fitness::fit::is_fit` meets its contract: fitness part by part is the rules'.
use native.Mathlib.Omega.{arith}
use mathlib.Core.Path.{◌∙◌}
use Rattle.fitness.proofs.FitOfParts.{parts_fit}
use Rattle.fitness.proofs.fit.is_fit.Goals as goal

pub returns : goal.returns
returns c =
    c.are_parts_fit.ensures
    ∙ parts_fit c.args.words.now c.args.queues.now
    (λ i. omega (arith, c.type_inv.queues i))
