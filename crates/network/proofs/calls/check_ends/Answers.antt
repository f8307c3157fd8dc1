-- `network::calls::check_ends` meets its contract: each return is the refusal that the tests before it lead to.
use native.Mathlib.Omega.{arith}
use mathlib.Core.Path.{sym, ◌∙◌}
use Rattle.fitness.proofs.FitTables.{fit_length}
use Rattle.network.proofs.calls.check_ends.Goals as goal

pub returns-then-not-is_fit : goal.returns-then-not-is_fit
returns-then-not-is_fit c = rw (sym c.is_fit.ensures ∙ c.if-not-is_fit.true)

pub bounds-words-0 : goal.bounds-words-0
bounds-words-0 c =
    let s = c.args in
    omega (arith, fit_length s.words.now s.queues.now (sym c.is_fit.ensures ∙ c.if-not-is_fit.false))

pub returns-then-are_bad_ends : goal.returns-then-are_bad_ends
returns-then-are_bad_ends c =
    rw (sym c.is_fit.ensures ∙ c.if-not-is_fit.false, sym c.are_bad_ends.ensures ∙ c.if-are_bad_ends.true)

pub returns : goal.returns
returns c = rw (sym c.is_fit.ensures ∙ c.if-not-is_fit.false, sym c.are_bad_ends.ensures ∙ c.if-are_bad_ends.false)
