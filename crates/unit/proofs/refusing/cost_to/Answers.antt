-- `unit::refusing::cost_to` meets its contract: each return rewrites the definition by the tests that led there.
use native.Mathlib.Omega.{arith}
use Rattle.state.proofs.QuestionAnswers.{loadable}
use Rattle.unit.proofs.LinkRefusals.{ends, cost_word}
use Rattle.unit.proofs.refusing.cost_to.Goals as goal

pub bounds-table-to : goal.bounds-table-to
bounds-table-to c =
    let h = ends c.args.table.now c.args.to c.requires in
    omega (arith, (loadable c.args.table.now h.fit).0, h.below, h.facts.high)

pub returns : goal.returns
returns c = cost_word _ _ (ends c.args.table.now c.args.to c.requires)
