-- Words: a property of every member of a list, built with a proof for each.
use Rattle.std.specs.Prelude.{List, [], ◌∷◌}

-- P holds of each member of a list.
pub data Each {A : Type 0} (P : A → Type 0) : List A → Type 0 where
  none : Each P []
  one : {x : A} {xs : List A} → P x → Each P xs → Each P (x ∷ xs)
