-- `queues::parcels::parcel_at` meets its contract: each return is a law on the parcel there.
use Prim.Native.Nat.{◌+◌, ◌<◌}
use native.Mathlib.Omega.{arith}
use mathlib.Core.Path.{sym}
use borrow.Author.Rules.{rules}
use Rattle.ground.specs.Rows.{at}
use Rattle.queues.proofs.OneParcel.{past_buffer, past_used, too_long, to_other, whole_parcel}
use Rattle.queues.proofs.parcels.parcel_at.Statement.{statement}
use Rattle.queues.proofs.parcels.parcel_at.Tie as tie

-- The number of entries is a byte.
entries : (c : tie.After-shared_slice_known-1)
    → let args = c.args in
    at args.sent.now (args.place + 4) < 256
entries c = omega (arith, c.shared_slice_known-1.given (c.args.place + 4))

returns : tie.Need-returns-then-sent-used
returns c =
    let args = c.args in
    sym (past_buffer args.sent.now args.used args.k args.place c.if-sent-used.true)

returns_2 : tie.Need-returns-then-used-lt5
returns_2 c =
    let args = c.args in
    sym (past_used args.sent.now args.used args.k args.place (omega arith))

returns_3 : tie.Need-returns-then-used-place
returns_3 c =
    let args = c.args in
    sym (past_used args.sent.now args.used args.k args.place (omega arith))

cast_parcel : tie.Need-overflow_cast-parcel
cast_parcel c = omega (arith, entries c)

mul_parcel : tie.Need-overflow_mul-parcel
mul_parcel c = omega (arith, entries c)

add_parcel_2 : tie.Need-overflow_add-parcel-2
add_parcel_2 c = omega (arith, entries c)

returns_4 : tie.Need-returns-then-used-place-2
returns_4 c =
    let args = c.args in
    sym (past_used args.sent.now args.used args.k args.place (omega arith))

returns_5 : tie.Need-returns-then-parcel
returns_5 c =
    let args = c.args in
    sym (too_long args.sent.now args.used args.k args.place (omega arith))

cast_if6 : tie.Need-overflow_cast-sent
cast_if6 c =
    omega (arith, c.shared_slice_known-2-1.given c.args.place)

returns_6 : tie.Need-returns-then-sent-place
returns_6 c =
    let args = c.args in
    sym (to_other args.sent.now args.used args.k args.place c.if-sent-place.true)

returns_7 : tie.Need-returns
returns_7 c =
    let args = c.args in
    let counts =
    whole_parcel args.sent.now args.used args.k args.place (omega arith) (omega arith) (omega arith)
    c.if-sent-place.false in
    omega arith

pub parcel_at_spec : {M : Type 1} → statement M
parcel_at_spec =
    tie.close
    (tie.spec
    returns
    returns_2
    returns_3
    (λ c. search rules) (λ c. search rules)
    cast_parcel
    mul_parcel
    add_parcel_2
    (λ c. search rules)
    returns_4
    (λ c. search rules)
    returns_5
    (λ c. search rules)
    cast_if6
    returns_6
    returns_7)
