-- `meter::table::held_bytes` meets its contract. The invariant: the bytes at the places below this one, and that they are not too
-- many.
use Prim.Native.Nat.{ℕ}
use native.Mathlib.Omega.{arith}
use mathlib.Core.Path.{◌≡◌, refl, ap, ◌∙◌}
use Rattle.ground.specs.Limits.{frame_limit}
use Rattle.ground.specs.Rows.{total}
use Rattle.frames.specs.Meter.{frame_at}
use Rattle.frames.specs.MeterTable.{place_at, meter_from}
use Rattle.meter.proofs.ReadFrames.{total_turn}
use Rattle.meter.proofs.table.held_bytes.Goals as goal

pub loop-place-init : goal.loop-place-init
loop-place-init c = (omega arith, refl)

pub overflow_add-bytes : goal.overflow_add-bytes
overflow_add-bytes c =
    let loop = c.loop-place in
    omega (arith, c.type_inv.meter (place_at loop.place), c.from-bytes.ensures, loop.invariant.0)

pub loop-place-preserved : goal.loop-place-preserved
loop-place-preserved c =
    let loop = c.loop-place in (
      omega (arith, c.type_inv.meter (place_at loop.place), c.from-bytes.ensures, loop.invariant.0),
      total_turn c.args.meter.now loop.place (λ n. n) loop.bytes c.from-bytes.result
          c.loop-place-test.true loop.invariant.1 c.from-bytes.ensures,
    )

pub returns : goal.returns
returns c =
    let loop = c.loop-place in
    let all : loop.place ≡ frame_limit = omega arith in
    loop.invariant.1
    ∙ ap (λ (n : ℕ). total n (λ p. (frame_at (meter_from c.args.meter.now) p).size)) all
