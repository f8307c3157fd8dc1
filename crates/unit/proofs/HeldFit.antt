-- Arrays that hold a fit unit: they have zeros from the count on, the unit is shaped, and the arrays of a fit unit are such.
use Prim.Native.Nat.{◌≤◌}
use mathlib.Core.Bool.{Bool, true, ◌&&◌}
use mathlib.Core.Path.{◌≡◌, ap, ◌∙◌}
use borrow.Author.Tests.{le-leb}
use lib.Dec.{leb}
use lib.ListN.{length}
use Rattle.ground.specs.Limits.{unit_limit}
use Rattle.rules.specs.Unit.{Unit, is_active, fit_unit}
use Rattle.rules.proofs.FitUnit.{fit_facts}
use Rattle.rules.proofs.Laid.{ShapedUnit}
use Rattle.recomputing.specs.Flat.{flat_length}
use Rattle.state.specs.Holding.{held_of, unit_of}
use Rattle.unit.specs.Noting.{Padded}
use Rattle.unit.specs.Reacted.{FitHeld}
use Rattle.state.specs.declared.held.Held.{Held}
use Rattle.state.proofs.Holding.{holds_back, length_flat}
use Rattle.unit.proofs.NotedArrays.{padded_held, padded_shaped}

-- The count is at most the limit.
pub held_high : {h : Held} → FitHeld h → h.count ≤ unit_limit
held_high {h} p = (fit_facts (unit_of h) p.fit).high

-- Zeros from the count on.
pub held_padded : {h : Held} → FitHeld h → Padded h
held_padded p = record { count = held_high p; zeros = p.padded }

-- The unit is shaped.
pub held_shaped : {h : Held} → FitHeld h → ShapedUnit (unit_of h)
held_shaped {h} p = padded_shaped h (held_padded p)

-- The array of copies has its fixed length.
pub held_flat : {h : Held} → FitHeld h → length h.copies ≡ flat_length
held_flat {h} p = ap (λ (x : Held). length x.copies) p.padded ∙ length_flat (unit_of h) (held_shaped p)

-- The arrays of a shaped unit that is fit hold it.
pub fit_held : (u : Unit) → ShapedUnit u → fit_unit u ≡ true → FitHeld (held_of u)
fit_held u s fit = record { padded = (padded_held u s).zeros; fit = rw (holds_back u s) fit }

-- Within the limit, the test whether a unit is ACTIVE is the rules'.
pub active_held : {h : Held} → FitHeld h → {found : Bool} → found ≡ (leb h.count unit_limit && is_active (unit_of h))
    → found ≡ is_active (unit_of h)
active_held {h} f e = e ∙ within (leb h.count unit_limit) (le-leb h.count unit_limit (held_high f))
  where
    within : (t : Bool) → t ≡ true → (t && is_active (unit_of h)) ≡ is_active (unit_of h)
    within t q = rw q
