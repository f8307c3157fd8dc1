-- Order: what the code's reaction leaves, piece by piece. proofs/Composed.antt shows that together it is `reaction_by`.
use Rattle.std.specs.Prelude.{ℕ, min, Bool, true, not, ◌&&◌, ◌||◌, List, ◌≡◌, eqb, length}
use Rattle.std.specs.Prelude.{if◌then◌else◌}
use Rattle.ground.specs.Limits.{unit_limit}
use Rattle.ground.specs.Rows.{at, tab, filled_rows}
use Rattle.tree.specs.Recompute.{through_neighbours}
use Rattle.rules.specs.Event.{Reaction}
use Rattle.rules.specs.Hub.{outgoing, outgoing_laid}
use Rattle.rules.specs.Tables.{laid_row}
use Rattle.rules.specs.Unit.{Unit, fit_unit, successor_set}
use Rattle.state.specs.Holding.{held_of, unit_of}
use Rattle.rules.specs.Event.{reaction_by}
use Rattle.unit.specs.declared.event.Lowering.{Lowering}
use Rattle.unit.specs.declared.event.Lowering.TheVariants.{Alone, Passive, Waiting, Released}
use Rattle.unit.specs.declared.event.Reacted.{Reacted}
use Rattle.state.specs.declared.held.Held.{Held}

-- Arrays with zeros from the count on, that hold a fit unit.
pub record FitHeld (h : Held) : Type 0 where
  pub padded : h ≡ held_of (unit_of h)
  pub fit : fit_unit (unit_of h) ≡ true

-- The distances through a unit's neighbours, in arrays.
abbrev pub through_of : Unit → List (List ℕ)
through_of v = filled_rows unit_limit (through_neighbours v.count v.costs v.copies)

-- Which way feasible distances go, and where it leads.
abbrev pub lowering_for : (alone was now : Bool) → Lowering
lowering_for alone was now = if alone then Alone else if not was then Passive else if now then Waiting else Released

abbrev pub lowered_to : Lowering → (feasible old new : ℕ) → ℕ
lowered_to Alone feasible old new = new
lowered_to Passive feasible old new = min feasible new
lowered_to Waiting feasible old new = feasible
lowered_to Released feasible old new = min old new

abbrev pub lowered_row : (n : ℕ) → Lowering → (feasible old new : List ℕ) → List ℕ
lowered_row n how feasible old new = tab n (λ j. lowered_to how (at feasible j) (at old j) (at new j))

-- Whether a neighbour is awaited, from its cost and its wait.
abbrev pub wait_to : (cost awaited : ℕ) (isChanged is_new : Bool) → ℕ
wait_to cost awaited isChanged is_new = if not (eqb cost 0) && (isChanged || is_new) then 1 else awaited

abbrev pub awaited_row : (n : ℕ) (costs awaited : List ℕ) (isChanged : Bool) (new : ℕ) → List ℕ
awaited_row n costs awaited isChanged new = tab n (λ k. wait_to (at costs k) (at awaited k) isChanged (eqb k new))

-- The unit, its successor sets and the bytes used; and the buffer.
abbrev pub reacted_with : Reaction → Reacted
reacted_with r =
    record {
      unit = held_of r.unit;
      successors = laid_row (tab r.unit.count (successor_set r.unit));
      used = length (outgoing r);
    }

unfoldable pub reacted_of : (v : Unit) (was : Bool) (new owed : ℕ) → Reacted
reacted_of v was new owed = reacted_with (reaction_by v was new owed)

unfoldable pub reacted_out : (v : Unit) (was : Bool) (new owed : ℕ) (buffer : List ℕ) → List ℕ
reacted_out v was new owed buffer = outgoing_laid (reaction_by v was new owed) buffer
