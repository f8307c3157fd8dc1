-- `message::reader::changes_in` meets its contract. The invariant: the array holds the changes read so far, and zeros.
use Prim.Native.Nat.{◌<◌}
use native.Mathlib.Omega.{arith}
use mathlib.Core.Path.{◌≡◌, refl}
use borrow.Author.Rules.{rules}
use Rattle.ground.specs.Limits.{entry_limit}
use Rattle.ground.proofs.Filled.{filled_tab}
use Rattle.message.proofs.reader.changes_in.Goals as goal

pub loop-i-init : goal.loop-i-init
loop-i-init c = (search rules, refl)

pub loop-i-preserved : goal.loop-i-preserved
loop-i-preserved c =
    let here = c.loop-i in
    let room : here.i < entry_limit = omega arith in
    (search rules, rw (here.invariant.1, c.change_at.ensures) (filled_tab entry_limit here.i _ room))

pub returns : goal.returns
returns c =
    let all : c.loop-i.i ≡ c.args.entries = omega arith in
    rw (c.loop-i.invariant.1, all)
