-- `unit::noting::applied` meets its contract. One more change is made last, by `applied_next`.
use native.Mathlib.Omega.{arith}
use mathlib.Core.Path.{ap, ◌∙◌}
use borrow.Author.Rules.{rules}
use Prim.Native.Nat.{◌<◌}
use lib.ListN.{length-set}
use lib.Seq.{take_all}
use Rattle.ground.specs.Limits.{unit_limit}
use Rattle.ground.specs.Rows.{at}
use Rattle.rules.specs.Message.{changed_unit, applied as appliedTo}
use Rattle.rules.proofs.Applied.{applied_next}
use Rattle.unit.proofs.noting.applied.Goals as goal

pub loop-change-init : goal.loop-change-init
unfolding appliedTo
loop-change-init c = search rules

-- The change that is read is of a unit that has a place.
pub offset_bounds-row-j : goal.offset_bounds-row-j
offset_bounds-row-j c =
    let has_place : changed_unit (at c.args.changes.now c.loop-change.change-index) < unit_limit =
    c.requires c.loop-change.change-index c.loop-change-test.true in
    omega (arith, has_place)

pub bounds-row-j : goal.bounds-row-j
bounds-row-j c =
    let has_place : changed_unit (at c.args.changes.now c.loop-change.change-index) < unit_limit =
    c.requires c.loop-change.change-index c.loop-change-test.true in
    omega (arith, has_place)

pub loop-change-preserved : goal.loop-change-preserved
loop-change-preserved c =
    let here = c.loop-change in
    let args = c.args in (
      simp length-set here.invariant.0,
      rw (here.invariant.1, c.entry_of.ensures) (applied_next args.copy args.changes.now here.change-index (omega arith)),
    )

pub returns : goal.returns
returns c =
    let here = c.loop-change in
    let changes = c.args.changes.now in
    here.invariant.1 ∙ ap (appliedTo c.args.copy) (take_all here.change-index changes (omega arith))
