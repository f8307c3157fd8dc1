-- `unit::send::send` meets its contract: after each turn the bytes of the neighbours passed lie at the buffer's start.
use Prim.Native.Nat.{ℕ, ◌≤◌}
use native.Mathlib.Omega.{arith}
use mathlib.Core.List.{List}
use mathlib.Core.Path.{◌≡◌, refl, sym, ap, ◌∙◌}
use lib.ListN.{length}
use lib.Seq.{length-take-le}
use Rattle.std.specs.Prelude.{unwrap_or}
use Rattle.ground.specs.Limits.{unit_limit}
use Rattle.ground.specs.Rows.{laid_after}
use Rattle.unit.specs.Sending.{number_for, bytes_to}
use Rattle.unit.proofs.LaidMessages.{list_in, sendable_as, laid_more}
use Rattle.unit.proofs.AllMessages.{bytes_for, picked_as, kind_as, facts, small_tree, place_for, sendable_one, sent_all, sent_short}
use Rattle.unit.proofs.send.send.Goals as goal

pub differences-some-requires : goal.differences-some-requires
differences-some-requires c = ((facts _ _ _ _ _ c.requires).high, small_tree _ _ _ _ _ c.requires)

pub differences-whole-requires : goal.differences-whole-requires
differences-whole-requires c = ((facts _ _ _ _ _ c.requires).high, small_tree _ _ _ _ _ c.requires)

pub loop-k-init : goal.loop-k-init
loop-k-init c = (omega arith, refl, (refl, refl))

-- The bytes laid are the neighbour's.
pub loop-k-preserved : goal.loop-k-preserved
unfolding bytes_for
loop-k-preserved c =
    let args = c.args in
    let k = c.loop-k.k in
    let inv = c.loop-k.invariant in
    let new = unwrap_or args.new args.unit.count in
    let owed = unwrap_or args.owed args.unit.count in
    let some = c.differences-some.result in
    let whole = c.differences-whole.result in
    let found =
    picked_as args.unit.count k c.loop-k-test.true args.unit.costs args.changed args.new c.eq-is_new.ensures c.is_sent-sent.ensures
    c.differences-whole.result c.differences-some.result c.changes_for-changes.ensures in
    let kind =
    kind_as args.unit.count k c.loop-k-test.true args.unit.costs args.changed args.new c.eq-is_new.ensures c.is_sent-sent.ensures args.owed
    c.eq.ensures c.kind_for-kind.ensures in
    let bytes : bytes_to k (number_for c.kind_for-kind.result) args.unit.me (list_in c.changes_for-changes.result)
    ≡ bytes_for args.changed new owed args.unit.me args.unit.costs some whole k =
    rw (kind, found) in (
      omega (arith, c.loop-k-test.true),
      c.lay_one-used.auto.out ∙ inv.1,
      laid_more k (bytes_for args.changed new owed args.unit.me args.unit.costs some whole) _ _ inv.2 bytes
          c.lay_one-used.ensures.answer c.lay_one-used.ensures.laid,
    )

-- The units are few.
pub offset_bounds-costs-k : goal.offset_bounds-costs-k
offset_bounds-costs-k c =
    let few : c.args.unit.count ≤ unit_limit = (facts _ _ _ _ _ c.requires).high in
    omega arith

pub bounds-costs-k : goal.bounds-costs-k
bounds-costs-k c =
    let few : c.args.unit.count ≤ unit_limit = (facts _ _ _ _ _ c.requires).high in
    omega arith

-- There is place in the array for the changes that the code finds.
pub slice_bounds-list-end : goal.slice_bounds-list-end
slice_bounds-list-end c =
    let args = c.args in
    let k = c.loop-k.k in
    let found =
    picked_as args.unit.count k c.loop-k-test.true args.unit.costs args.changed args.new c.eq-is_new.ensures c.is_sent-sent.ensures
    c.differences-whole.result c.differences-some.result c.changes_for-changes.ensures in
    rw found (place_for _ _ _ _ _ c.requires _ _ _ c.differences-some.ensures c.differences-whole.ensures k)

pub slice_bounds-lay_one-end : goal.slice_bounds-lay_one-end
slice_bounds-lay_one-end c =
    let args = c.args in
    let k = c.loop-k.k in
    let found =
    picked_as args.unit.count k c.loop-k-test.true args.unit.costs args.changed args.new c.eq-is_new.ensures c.is_sent-sent.ensures
    c.differences-whole.result c.differences-some.result c.changes_for-changes.ensures in
    sym
    (length-take-le _ _
    (rw found (place_for _ _ _ _ _ c.requires _ _ _ c.differences-some.ensures c.differences-whole.ensures k)))

pub lay_one-used-requires : goal.lay_one-used-requires
lay_one-used-requires c =
    let args = c.args in
    let k = c.loop-k.k in
    let inv = c.loop-k.invariant in
    let found =
    picked_as args.unit.count k c.loop-k-test.true args.unit.costs args.changed args.new c.eq-is_new.ensures c.is_sent-sent.ensures
    c.differences-whole.result c.differences-some.result c.changes_for-changes.ensures in
    let kind =
    kind_as args.unit.count k c.loop-k-test.true args.unit.costs args.changed args.new c.eq-is_new.ensures c.is_sent-sent.ensures args.owed
    c.eq.ensures c.kind_for-kind.ensures in
    sendable_as
    (sendable_one _ _ _ _ _ c.requires _ _ _ c.differences-some.ensures c.differences-whole.ensures
    k c.loop-k.used c.loop-k-test.true inv.2.0)
    kind
    (ap list_in found)
    inv.1

pub shape_of-out : goal.shape_of-out
shape_of-out c = c.loop-k.invariant.1

pub returns : goal.returns
returns c =
    let told = c.loop-k.invariant.2 in
    let last : c.loop-k.k ≡ c.args.unit.count = omega arith in
    let whole =
    sent_all _ _ _ _ _ c.requires (unwrap_or c.args.new c.args.unit.count) _ _ c.differences-some.ensures c.differences-whole.ensures in
    record {
      answer = told.0 ∙ rw last (ap length whole);
      short =
          rw (told.0, last)
          (sent_short _ _ _ _ _ c.requires (unwrap_or c.args.new c.args.unit.count) _ _ c.differences-some.ensures c.differences-whole.ensures);
      laid = told.1 ∙ rw last (ap (λ (bytes : List ℕ). laid_after 0 bytes c.args.out.now) whole);
    }
