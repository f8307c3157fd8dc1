-- Step A leaves all of a unit but the tables of its links; the reaction to an event is steps B to F over what it leaves.
use mathlib.Core.Path.{◌≡◌, refl, ap}
use Rattle.rules.specs.Event.{Event, received, link_up, new_cost, link_down, with_links, noted, new_of, owed_of, reaction_by}
use Rattle.rules.specs.Event.{reaction}
use Rattle.rules.specs.Unit.{Unit, is_active}

-- Step A leaves all but the tables of the links.
noted_links : (u : Unit) (e : Event) → noted u e ≡ with_links u (noted u e).costs (noted u e).copies (noted u e).awaited
unfolding noted
noted_links u (received m) = refl
noted_links u (link_up neighbour cost) = refl
noted_links u (new_cost neighbour cost) = refl
noted_links u (link_down neighbour) = refl

-- It keeps the count.
pub noted_count : (u : Unit) (e : Event) → (noted u e).count ≡ u.count
noted_count u e = ap (λ (w : Unit). w.count) (noted_links u e)

-- It keeps the unit's own number.
pub noted_me : (u : Unit) (e : Event) → (noted u e).me ≡ u.me
noted_me u e = ap (λ (w : Unit). w.me) (noted_links u e)

-- The reaction to an event is steps B to F over what step A leaves.
pub reaction-by : (u : Unit) (e : Event)
    → reaction u e ≡ reaction_by (noted u e) (is_active u) (new_of u.count e) (owed_of u.count e)
unfolding reaction
reaction-by u e = refl
