-- `unit::event::is_alone` meets its contract: no link is up where the costs are all 0.
use native.Mathlib.Omega.{arith}
use mathlib.Core.Bool.{Bool, true, false, not}
use mathlib.Core.Path.{◌≡◌, refl, sym, ap, ◌∙◌}
use borrow.Author.Rules.{rules}
use lib.ListN.{length, take, length-take}
use Rattle.ground.specs.Limits.{unit_limit}
use Rattle.rules.specs.Event.{is_alone}
use Rattle.slices.proofs.AllZero.{some_number}
use Rattle.unit.proofs.event.is_alone.Statement.{statement}
use Rattle.unit.proofs.event.is_alone.Tie as tie

-- What is not so twice is so.
twice_not : (t : Bool) → not (not t) ≡ t
twice_not true = refl
twice_not false = refl

-- The costs have a place for each unit.
long : (c : tie.Start) → length c.args.unit.costs ≡ unit_limit
long c = search rules

returns : tie.Need-returns
unfolding is_alone
returns c =
    let start = c.before.before.before in
    let unit = start.args.unit in
    c.is_nothing.ensures
    ∙ sym
    (ap not
    (some_number (take unit.count unit.costs) unit.count
    (omega (arith, length-take unit.count unit.costs, long start)))
    ∙ twice_not _)

pub is_alone_spec : {M : Type 1} → statement M
is_alone_spec =
    tie.close
    (tie.spec
    (λ c. omega (arith, long c.before)) (λ c. simp length-take (omega (arith, long c.before.before)))
    (λ c κs. search rules)
    returns)
