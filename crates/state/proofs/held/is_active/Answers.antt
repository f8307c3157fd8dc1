-- `state::held::is_active` meets its contract: some wait is not 0 where the waits are not all 0.
use native.Mathlib.Omega.{arith}
use mathlib.Core.Bool.{not}
use mathlib.Core.Path.{◌≡◌, sym, ap, ◌∙◌}
use borrow.Author.Rules.{rules}
use borrow.Author.Tests.{le-leb, lt-leb}
use lib.ListN.{length, take, length-take}
use Rattle.ground.specs.Limits.{unit_limit}
use Rattle.rules.specs.Unit.{is_active}
use Rattle.slices.proofs.AllZero.{some_number}
use Rattle.state.proofs.held.is_active.Goals as goal

pub returns : goal.returns
unfolding is_active
returns c =
    let unit = c.args.unit in
    let long : length unit.awaited ≡ unit_limit = search rules in
    rw (le-leb unit.count unit_limit c.if-unit-gt-UNITS.false)
    (ap not c.is_nothing.ensures
    ∙ sym
    (some_number (take unit.count unit.awaited) unit.count (omega (arith, length-take unit.count unit.awaited))))

pub returns-then-unit-gt-UNITS : goal.returns-then-unit-gt-UNITS
returns-then-unit-gt-UNITS c = rw (lt-leb _ _ c.if-unit-gt-UNITS.true)
