-- `unit::refusing::check_end` meets its contract: each return rewrites the definition by the tests that led there.
use Prim.Native.Nat.{ℕ, ◌<◌}
use native.Mathlib.Omega.{arith}
use mathlib.Core.Bool.{true, false}
use mathlib.Core.List.{List}
use mathlib.Core.Path.{◌≡◌, sym, ◌∙◌}
use Rattle.ground.specs.Rows.{at}
use Rattle.rules.specs.Tables.{unit_from, fit_unit_table}
use Rattle.rules.proofs.FitUnit.{fit_table_facts}
use Rattle.state.proofs.QuestionAnswers.{loadable}
use Rattle.unit.proofs.LinkRefusals.{end_unfit, end_numbers}
use Rattle.unit.proofs.refusing.check_end.Goals as goal

-- A fit table's own number is a unit.
me_below : (words : List ℕ) → fit_unit_table words ≡ true → at words 1 < at words 0
unfolding unit_from
me_below words e = (fit_table_facts words e).me

pub returns-then-not-is_fit : goal.returns-then-not-is_fit
returns-then-not-is_fit c = sym (end_unfit _ _ (sym c.is_fit.ensures ∙ c.if-not-is_fit.true))

pub bounds-table-0 : goal.bounds-table-0
bounds-table-0 c = omega (arith, (loadable _ (sym c.is_fit.ensures ∙ c.if-not-is_fit.false)).0)

pub bounds-table-1 : goal.bounds-table-1
bounds-table-1 c = omega (arith, (loadable _ (sym c.is_fit.ensures ∙ c.if-not-is_fit.false)).0)

pub is_bad_end-requires : goal.is_bad_end-requires
is_bad_end-requires c = me_below _ (sym c.is_fit.ensures ∙ c.if-not-is_fit.false)

pub returns-then-is_bad_end : goal.returns-then-is_bad_end
returns-then-is_bad_end c =
    sym
    (end_numbers _ _ (sym c.is_fit.ensures ∙ c.if-not-is_fit.false) true (sym c.if-is_bad_end.true ∙ c.is_bad_end.ensures))

pub returns : goal.returns
returns c =
    sym
    (end_numbers _ _ (sym c.is_fit.ensures ∙ c.if-not-is_fit.false) false (sym c.if-is_bad_end.false ∙ c.is_bad_end.ensures))
