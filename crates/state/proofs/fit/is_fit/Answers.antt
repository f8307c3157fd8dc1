-- `state::fit::is_fit` meets its contract: what is loaded is the table's unit, and what is laid is what it lays out.
use Prim.Native.Nat.{ℕ, ◌≤◌}
use native.Mathlib.Omega.{arith}
use mathlib.Core.Bool.{Bool, true}
use mathlib.Core.List.{List}
use mathlib.Core.Path.{◌≡◌, sym, ap, ◌∙◌}
use borrow.Author.Rules.{rules}
use lib.ListN.{length}
use Rattle.ground.specs.Limits.{unit_limit}
use Rattle.ground.specs.Rows.{same, at}
use Rattle.rules.specs.Tables.{unit_words, unit_from}
use Rattle.rules.specs.Unit.{fit_unit}
use Rattle.rules.proofs.FitUnit.{fit_facts, feasible_far}
use Rattle.rules.proofs.Laid.{unit_shaped}
use Rattle.ground.proofs.Limits.{filled_counted}
use Rattle.recomputing.proofs.CopiedRows.{through_whole}
use Rattle.slices.proofs.Alike.{alike}
use Rattle.state.specs.Holding.{unit_of, held_of}
use Rattle.state.specs.declared.held.Held.{Held}
use Rattle.state.proofs.Fitness.{bad_length, bad_count, bad_unit, by_laid}
use Rattle.state.proofs.Holding.{holds_back}
use Rattle.state.proofs.Successors.{laid_of}
use Rattle.state.proofs.fit.is_fit.Goals as goal

module _ (table : List ℕ) (unit : Held) (loaded : unit ≡ held_of (unit_from table)) where
  -- The count that was loaded is within the limit.
  count_low : at table 0 ≤ unit_limit → unit.count ≤ unit_limit
  unfolding unit_from
  count_low low = omega (arith, ap (λ (h : Held). h.count) loaded)

  -- The code's test of the unit is the rules'.
  fit_tested : {test : Bool} → at table 0 ≤ unit_limit → length table ≡ unit_words → test ≡ fit_unit (unit_of unit)
      → fit_unit (unit_from table) ≡ test
  fit_tested low long tested =
      sym
      (tested
      ∙ ap (λ (h : Held). fit_unit (unit_of h)) loaded
      ∙ ap fit_unit (holds_back (unit_from table) (unit_shaped table low long)))

  -- Where it is fit, its own number is within the limit.
  me_low : fit_unit (unit_from table) ≡ true → unit.me ≤ unit_limit
  me_low fit =
      let facts = fit_facts (unit_from table) fit in
      omega (arith, ap (λ (h : Held). h.me) loaded, facts.me, facts.high)

pub returns-then-table-ne-UNIT_WORDS : goal.returns-then-table-ne-UNIT_WORDS
returns-then-table-ne-UNIT_WORDS c = sym (bad_length c.args.table.now c.if-table-ne-UNIT_WORDS.true)

pub returns-then-table-gt-UNITS : goal.returns-then-table-gt-UNITS
returns-then-table-gt-UNITS c = sym (bad_count c.args.table.now c.if-table-gt-UNITS.true)

pub fit_unit-requires : goal.fit_unit-requires
fit_unit-requires c =
    count_low c.args.table.now c.load-unit.result c.load-unit.ensures c.if-table-gt-UNITS.false

pub returns-then-not-fit_unit : goal.returns-then-not-fit_unit
returns-then-not-fit_unit c =
    let table = c.args.table.now in
    sym
    (bad_unit table
    (fit_tested table c.load-unit.result c.load-unit.ensures c.if-table-gt-UNITS.false c.if-table-ne-UNIT_WORDS.false
    c.fit_unit.ensures
    ∙ c.if-not-fit_unit.true))

pub lay-requires : goal.lay-requires
lay-requires c =
    let table = c.args.table.now in
    let low = c.if-table-gt-UNITS.false in
    let fit =
    fit_tested table c.load-unit.result c.load-unit.ensures low c.if-table-ne-UNIT_WORDS.false c.fit_unit.ensures
    ∙ c.if-not-fit_unit.false in (
      search rules,
      count_low table c.load-unit.result c.load-unit.ensures low,
      me_low table c.load-unit.result c.load-unit.ensures fit,
    )

pub returns : goal.returns
returns c =
    let table = c.args.table.now in
    let low = c.if-table-gt-UNITS.false in
    let long = c.if-table-ne-UNIT_WORDS.false in
    let held = c.load-unit.result in
    let count = count_low table held c.load-unit.ensures low in
    let fit = fit_tested table held c.load-unit.ensures low long c.fit_unit.ensures ∙ c.if-not-fit_unit.false in
    let unit = unit_from table in
    let again =
    laid_of unit (unit_shaped table low long) (feasible_far unit (fit_facts unit fit))
    held
    c.through_neighbours-through.result
    c.sets_over-sets.result
    c.lay.new.table
    c.load-unit.ensures
    (c.through_neighbours-through.ensures ∙ through_whole _ _ _ count (search rules))
    (c.sets_over-sets.ensures ∙ filled_counted _ _ count)
    c.lay.ensures in
    c.eq.ensures
    ∙ alike table c.as_slice.result.now
    ∙ ap (same table) (c.as_slice.ensures ∙ again)
    ∙ sym (by_laid table long fit)
