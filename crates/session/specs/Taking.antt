-- Order: the bytes of a chunk up to a newline, taken into the room of a line (proofs/Taking.antt).
use Rattle.std.specs.Prelude.{ℕ, suc, Bool, true, false, List, [], ◌∷◌, eqb}
use Rattle.ground.specs.Bytes.{newline}
use Rattle.std.specs.Prelude.{if◌then◌else◌}
use Rattle.slices.specs.Putting.{used_after, put_after}

-- The room of the line, the bytes held of it, the place that is next, and whether the line is whole.
pub record Taking : Type 0 where
  pub line : List ℕ
  pub held : ℕ
  pub place : ℕ
  pub whole : Bool

unfoldable pub taken : (line : List ℕ) (held place : ℕ) (input : List ℕ) → Taking
taken line held place [] = record { line = line; held = held; place = place; whole = false }
taken line held place (byte ∷ input) =
    if eqb byte newline then record { line = line; held = held; place = suc place; whole = true }
    else taken (put_after held (byte ∷ []) line) (used_after held (byte ∷ []) line) (suc place) input
