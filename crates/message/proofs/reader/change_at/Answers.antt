-- `message::reader::change_at` meets its contract: the four bytes that it reads are the change's.
use Prim.Native.Nat.{ℕ, ◌+◌, ◌*◌}
use native.Mathlib.Omega.{arith}
use mathlib.Core.List.{List}
use mathlib.Core.Path.{◌≡◌}
use Rattle.ground.specs.Limits.{entry_base, change_base}
use Rattle.ground.specs.Rows.{at}
use Rattle.rules.specs.Message.{change_at}
use Rattle.message.proofs.reader.change_at.Goals as goal

-- The bytes at three places in a row, by the places' two forms.
change_bytes : (bytes : List ℕ) (entries i unit head high low : ℕ)
    → unit ≡ at bytes (4 + i)
    → head ≡ at bytes (4 + entries + 3 * i)
    → high ≡ at bytes (4 + entries + 3 * i + 1)
    → low ≡ at bytes (4 + entries + 3 * i + 2)
    → unit * change_base + (head * entry_base + high * 256 + low) ≡ change_at bytes entries i
unfolding change_at
change_bytes bytes entries i unit head high low u h g l =
    let five : 4 + entries + 3 * i + 1 ≡ 5 + entries + 3 * i = omega arith in
    let six : 4 + entries + 3 * i + 2 ≡ 6 + entries + 3 * i = omega arith in
    rw (u, h, g, l, five, six)

pub returns : goal.returns
returns c =
    change_bytes _ _ _ _ _ _ _
    c.from-unit.ensures
    c.from-head.ensures
    c.from-high.ensures
    c.from-low.ensures
