-- `unit::noting::changes_nothing` meets its contract.
use Prim.Native.Nat.{◌<◌}
use native.Mathlib.Numerals.{add-one}
use native.Mathlib.Omega.{arith}
use mathlib.Core.Path.{◌≡◌, sym, ◌∙◌}
use borrow.Author.Rules.{rules}
use borrow.Author.Tests.{eq-eqb, ne_eqb}
use lib.ListN.{length}
use Rattle.ground.specs.Limits.{unit_limit}
use Rattle.ground.specs.Rows.{at, some}
use Rattle.rules.specs.Event.{changes_nothing}
use Rattle.rules.specs.Message.{changed_unit}
use Rattle.ground.proofs.Rows.{some_of}
use Rattle.ground.proofs.Tests.{neither_of}
use Rattle.unit.proofs.noting.changes_nothing.Goals as goal
use Rattle.unit.proofs.noting.changes_nothing.Invariants.{is_kept}

pub overflow_cast-j : goal.overflow_cast-j
overflow_cast-j c = omega (arith, c.type_inv.changes c.loop-change.change-index)

-- The change that is read is of a unit that has a place.
pub offset_bounds-copy-j : goal.offset_bounds-copy-j
offset_bounds-copy-j c =
    let has_place : changed_unit (at c.args.changes.now c.loop-change.change-index) < unit_limit =
    c.requires c.loop-change.change-index c.loop-change-test.true in
    omega (arith, has_place)

pub bounds-copy-j : goal.bounds-copy-j
bounds-copy-j c =
    let has_place : changed_unit (at c.args.changes.now c.loop-change.change-index) < unit_limit =
    c.requires c.loop-change.change-index c.loop-change-test.true in
    omega (arith, has_place)

pub returns-then-copy-j : goal.returns-then-copy-j
unfolding changes_nothing
returns-then-copy-j c =
    let args = c.args in
    sym
    (some_of (length args.changes.now) (is_kept args.copy args.changes.now) c.loop-change.change-index c.loop-change-test.true
    (eq-eqb _ _ (c.if-copy-j.true ∙ c.entry_of.ensures)))

pub loop-change-preserved : goal.loop-change-preserved
loop-change-preserved c =
    let here = c.loop-change in
    let kept = is_kept c.args.copy c.args.changes.now in (
      search rules,
      rw add-one
          (neither_of (some here.change-index kept) (kept here.change-index) here.invariant.1
          (ne_eqb _ _ (λ e. c.if-copy-j.false (e ∙ sym c.entry_of.ensures)))),
    )

pub returns : goal.returns
unfolding changes_nothing
returns c =
    let all : c.loop-change.change-index ≡ length c.args.changes.now = omega arith in
    sym (rw (← all) c.loop-change.invariant.1)
