-- The figures from the accepted calls: each frame comes to one of three fates, so any list of accepted calls adds up.
use Prim.Native.Nat.{ℕ, ◌+◌}
use native.Mathlib.Omega.{arith}
use mathlib.Core.Bool.{Bool, true, false}
use mathlib.Core.List.{List, [], ◌∷◌}
use mathlib.Core.Path.{◌≡◌, refl}
use Rattle.std.specs.Prelude.{if◌then◌else◌}
use Rattle.frames.specs.Meter.{Fate, as_held, as_delivered, as_dropped}
use Rattle.frames.specs.Account.{Accepted, brought_bytes, was_held, was_delivered, was_dropped, became, bytes_that}
use Rattle.frames.specs.Account.{bytes_entered, bytes_delivered, bytes_dropped, bytes_held}

-- Bytes that count where a test holds.
abbrev pub bytes_if : Bool → (bytes : ℕ) → ℕ
bytes_if test bytes = if test then bytes else 0

-- No bytes count as none, whatever the test says.
pub no_bytes : (test : Bool) (bytes : ℕ) → bytes ≡ 0 → bytes_if test bytes ≡ 0
no_bytes true bytes e = e
no_bytes false bytes e = refl

-- A frame is delivered, dropped or held, and only one of these.
pub one_fate : (fate : Fate) (bytes : ℕ)
    → bytes ≡ bytes_if (was_delivered fate) bytes + bytes_if (was_dropped fate) bytes + bytes_if (was_held fate) bytes
one_fate (as_held place) bytes = omega arith
one_fate as_delivered bytes = omega arith
one_fate as_dropped bytes = omega arith

-- "Bytes entered equal bytes delivered, dropped and held": so the sums of any list of accepted calls do.
pub sums_add_up : (accepted : List Accepted)
    → bytes_entered accepted ≡ bytes_delivered accepted + bytes_dropped accepted + bytes_held accepted
unfolding bytes_that
sums_add_up [] = refl
sums_add_up (accepted ∷ later) =
    omega (arith, one_fate (became accepted.fate later) (brought_bytes accepted.call), sums_add_up later)
