-- `unit::send::differences` meets its contract: after each turn the changes of the units passed are listed.
use native.Mathlib.Omega.{arith}
use mathlib.Core.Path.{◌≡◌, refl}
use Rattle.rules.specs.Message.{differences}
use Rattle.rules.proofs.Differences.{differences_most}
use Rattle.unit.proofs.LaidMessages.{listed_same, listed_other}
use Rattle.unit.proofs.send.differences.Goals as goal
use Rattle.unit.proofs.send.differences.Goals.{then-old-j, else-old-j}

pub loop-j-init : goal.loop-j-init
unfolding differences
loop-j-init c = (omega arith, (refl, refl))

pub change-requires : goal.change-requires
change-requires c = (omega arith, c.requires.1 c.loop-j.j (omega arith))

-- There are at most as many changes as units passed.
pub offset_bounds-list-number : goal.offset_bounds-list-number
offset_bounds-list-number c = omega (arith, differences_most c.loop-j.j c.args.old c.args.new)

pub bounds-list-number : goal.bounds-list-number
bounds-list-number c = omega (arith, differences_most c.loop-j.j c.args.old c.args.new)

pub overflow_add-number : goal.overflow_add-number
overflow_add-number c = omega (arith, differences_most c.loop-j.j c.args.old c.args.new)

pub loop-j-preserved : goal.loop-j-preserved
loop-j-preserved c =
    let j = c.loop-j.j in
    let inv = c.loop-j.invariant in
    elim c.if-old-j.branch [
      | then-old-j w ↦ (
        omega arith,
        rw (w.number-is, w.list-is)
            (listed_other j c.args.old c.args.new _ _ _ inv.1 w.if-old-j.true (omega arith) w.change.ensures),
      )
      | else-old-j w ↦ (
        omega arith,
        rw (w.number-is, w.list-is) (listed_same j c.args.old c.args.new _ _ inv.1 w.if-old-j.false),
      )
    ]

pub returns : goal.returns
returns c =
    let e : c.loop-j.j ≡ c.args.count = omega arith in
    rw (c.loop-j.invariant.1.0, c.loop-j.invariant.1.1, e)
