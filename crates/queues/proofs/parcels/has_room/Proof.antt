-- `queues::parcels::has_room` meets its contract. The invariant: the parcels to the units below k end at the place, and
-- none of them finds its queue full.
use Prim.Native.Nat.{◌-◌, ◌≤◌}
use native.Mathlib.Omega.{arith}
use mathlib.Core.Bool.{true, not}
use mathlib.Core.Path.{◌≡◌, sym, ap, ◌∙◌}
use borrow.Author.Rules.{rules}
use Rattle.ground.proofs.Rows.{every_not, every_more}
use Rattle.queues.specs.Parcels.{parcels_to, is_full, has_room}
use Rattle.queues.proofs.OneParcel.{parcels_more, parcel_inside, full_is}
use Rattle.queues.proofs.parcels.has_room.Statement.{statement}
use Rattle.queues.proofs.parcels.has_room.Tie as tie

abbrev invariant_loop : tie.invariant-loop-k
invariant_loop queues count i sent used place₀ k₀ place k =
    (k ≤ count) × (place ≡ parcels_to sent used k) × (has_room queues k i sent used ≡ true)

abbrev decreases_loop : tie.decreases-loop-k
decreases_loop queues count i sent used place₀ k₀ place k = count - k

loop_holds : tie.Need-loop-k-init invariant_loop decreases_loop
unfolding parcels_to has_room
loop_holds c = search rules

-- Whether the parcel of a turn finds its queue full.
full : (c : tie.After-is_full invariant_loop decreases_loop)
    → let args = c.args in
    is_full args.queues.now args.i args.sent.now args.used c.loop-k.k
    ≡ c.is_full.result
full c =
    let here = c.loop-k in
    let args = c.args in
    full_is args.sent.now args.used here.k here.invariant.1 c.parcel_at-parcel.ensures args.queues.now
    args.i c.is_full.ensures

returns : tie.Need-returns-then-is_full invariant_loop decreases_loop
unfolding has_room
returns c =
    let args = c.args in
    sym
    (every_not args.count (λ k. not (is_full args.queues.now args.i args.sent.now args.used k))
    c.loop-k.k c.loop-k-test.true (ap not (full c.before ∙ c.if-is_full.true)))

add_place : tie.Need-overflow_add-place invariant_loop decreases_loop
add_place c =
    let here = c.loop-k in
    let args = c.args in
    let inside =
    parcel_inside args.sent.now args.used here.k here.invariant.1 c.parcel_at-parcel.ensures in
    search rules

loop_again : tie.Need-loop-k-preserved invariant_loop decreases_loop
unfolding has_room
loop_again c =
    let here = c.loop-k in
    let args = c.args in (
      search rules,
      parcels_more args.sent.now args.used here.k here.invariant.1 c.parcel_at-parcel.ensures,
      every_more here.k (λ k. not (is_full args.queues.now args.i args.sent.now args.used k)) here.invariant.2
          (ap not (full c.before ∙ c.if-is_full.false)),
    )

returns_2 : tie.Need-returns invariant_loop decreases_loop
returns_2 c =
    let all : c.loop-k.k ≡ c.args.count = omega arith in
    sym (rw all at c.loop-k.invariant.2)

pub has_room_spec : {M : Type 1} → statement M
has_room_spec =
    tie.close
    (tie.spec
    invariant_loop
    decreases_loop
    loop_holds
    (λ c. search rules) (λ c. search rules)
    returns
    add_place
    (λ c. search rules) (λ c. search rules)
    loop_again
    returns_2)
