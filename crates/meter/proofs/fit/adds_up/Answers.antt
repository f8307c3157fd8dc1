-- `meter::fit::adds_up` meets its contract: what is left is held, exactly where the figures add up.
use borrow.Author.Rules.{rules}
use Rattle.meter.proofs.fit.adds_up.Goals as goal

pub returns-then-entered-le-ENTERED_LIMIT : goal.returns-then-entered-le-ENTERED_LIMIT
returns-then-entered-le-ENTERED_LIMIT c = search rules
