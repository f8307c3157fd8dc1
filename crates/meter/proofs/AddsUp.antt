-- What it tells that figures add up.
use Prim.Native.Nat.{ℕ, ◌+◌, ◌≤◌}
use native.Mathlib.Omega.{arith}
use mathlib.Core.Path.{◌≡◌}

-- Each of three numbers is at most what their sum is at most.
pub each_most : (delivered dropped held : ℕ) {entered most : ℕ} → entered ≤ most → entered ≡ delivered + dropped + held
    → (delivered ≤ most) × (dropped ≤ most) × (held ≤ most)
each_most delivered dropped held l e = (omega arith, omega arith, omega arith)
