-- The invariant: the bytes at the places below this one, and that they are not too many.
use Prim.Native.Nat.{◌*◌, ◌≤◌}
use mathlib.Core.Path.{◌≡◌}
use Rattle.ground.specs.Limits.{far}
use Rattle.ground.specs.Rows.{total}
use Rattle.frames.specs.Meter.{frame_at}
use Rattle.frames.specs.MeterTable.{meter_from}
use Rattle.meter.proofs.table.held_bytes.Given as goal

abbrev pub invariant-loop-place : goal.invariant-loop-place
invariant-loop-place l =
    (l.bytes ≤ l.place * far)
    × (l.bytes ≡ total l.place (λ p. (frame_at (meter_from l.meter) p).size))
