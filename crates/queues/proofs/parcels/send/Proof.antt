-- `queues::parcels::send` meets its contract. The invariant: the parcels to the units below k end at the place, and their
-- messages are at the ends of their queues.
use Prim.Native.Nat.{◌+◌, ◌-◌, ◌≤◌}
use native.Mathlib.Omega.{arith}
use mathlib.Core.Path.{◌≡◌}
use borrow.Author.Rules.{rules}
use lib.ListN.{length}
use Rattle.queues.specs.Parcels.{parcels_to, sent_to}
use Rattle.queues.proofs.OneParcel.{parcels_more, parcel_inside, sent_more}
use Rattle.queues.proofs.parcels.send.Statement.{statement}
use Rattle.queues.proofs.parcels.send.Tie as tie

abbrev invariant_loop : tie.invariant-loop-k
invariant_loop queues₀ count i sent used place₀ k₀ queues place k =
    (k ≤ count)
    × (length queues ≡ length queues₀)
    × (place ≡ parcels_to sent used k)
    × (queues ≡ sent_to queues₀ i sent used k)

abbrev decreases_loop : tie.decreases-loop-k
decreases_loop queues₀ count i sent used place₀ k₀ queues place k = count - k

loop_holds : tie.Need-loop-k-init invariant_loop decreases_loop
unfolding parcels_to sent_to
loop_holds c = search rules

-- The parcel of a turn is within the buffer.
inside : (c : tie.After-parcel_at-parcel invariant_loop decreases_loop)
    → c.loop-k.place + c.parcel_at-parcel.result
    ≤ length c.args.sent.now
inside c =
    let here = c.loop-k in
    let args = c.args in
    parcel_inside args.sent.now args.used here.k here.invariant.2 c.parcel_at-parcel.ensures

send_one_requires : tie.Need-send_one-requires invariant_loop decreases_loop
send_one_requires c κs = inside c.before

add_place : tie.Need-overflow_add-place invariant_loop decreases_loop
add_place c =
    let fits = inside c.before.before.before.before in
    search rules

loop_again : tie.Need-loop-k-preserved invariant_loop decreases_loop
loop_again c =
    let found = c.parcel_at-parcel.ensures in
    let here = c.loop-k in
    let args = c.args in (
      search rules,
      search rules,
      parcels_more args.sent.now args.used here.k here.invariant.2 found,
      rw c.send_one.ensures
          (sent_more args.sent.now args.used here.k here.invariant.2 found args.queues.now args.i
          here.invariant.3),
    )

same_length : tie.Need-shape_of-queues invariant_loop decreases_loop
same_length c = c.loop-k.invariant.1

returns : tie.Need-returns invariant_loop decreases_loop
returns c =
    let all : c.loop-k.k ≡ c.args.count = omega arith in
    rw all at c.loop-k.invariant.3

pub send_spec : {M : Type 1} → statement M
send_spec =
    tie.close
    (tie.spec
    invariant_loop
    decreases_loop
    loop_holds
    (λ c. search rules)
    send_one_requires
    add_place
    (λ c. search rules) (λ c. search rules)
    loop_again
    same_length
    returns)
