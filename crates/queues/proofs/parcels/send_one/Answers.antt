-- `queues::parcels::send_one` meets its contract, by what its callees ensure.
use Prim.Native.Nat.{◌+◌, ◌-◌}
use native.Mathlib.Omega.{arith}
use mathlib.Core.Path.{◌≡◌}
use borrow.Author.Tests.{eq-eqb, ne_eqb}
use Rattle.queues.proofs.parcels.send_one.Goals as goal

pub returns-then-parcel-eq0 : goal.returns-then-parcel-eq0
returns-then-parcel-eq0 c = rw (eq-eqb c.args.parcel 0 c.if-parcel-eq0.true)

pub returns : goal.returns
returns c =
    let args = c.args in
    let long : args.place + args.parcel - (args.place + 1) ≡ args.parcel - 1 = omega arith in
    rw (
      ne_eqb args.parcel 0 c.if-parcel-eq0.false,
      c.put.ensures,
      c.appended-after.ensures,
      c.load-queue.ensures,
      long,
    )
