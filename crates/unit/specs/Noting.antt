-- Order: what step A's functions need: arrays with zeros from the count on, and changes of units that have a place
-- (proofs/NotedArrays.antt).
use Rattle.std.specs.Prelude.{ℕ, ◌≤◌, ◌<◌, List, ◌≡◌, length}
use Rattle.ground.specs.Limits.{unit_limit}
use Rattle.ground.specs.Rows.{at}
use Rattle.rules.specs.Message.{changed_unit}
use Rattle.state.specs.Holding.{held_of, unit_of}
use Rattle.state.specs.declared.held.Held.{Held}

pub record Padded (h : Held) : Type 0 where
  pub count : h.count ≤ unit_limit
  pub zeros : h ≡ held_of (unit_of h)

abbrev pub UnitsBelow : (n : ℕ) (changes : List ℕ) → Type 0
UnitsBelow n changes = (i : ℕ) → i < length changes → changed_unit (at changes i) < n
