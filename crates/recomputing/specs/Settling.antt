-- Order: the steps of the quick engine: where it starts, which unit it settles next, and what that unit's offers come to.
-- proofs/Settled.antt shows that it ends with the three facts of shortest distances.
use Rattle.std.specs.Prelude.{ℕ, min, ◌≤◌, ◌<◌, Bool, true, false, List, ◌≡◌, Option, Some, None, eqb, ltb, get_or}
use Rattle.std.specs.Prelude.{if◌then◌else◌}
use Rattle.ground.specs.Limits.{far}
use Rattle.ground.specs.Rows.{at, tab}
use Rattle.tree.specs.Tree.{plus}

abbrev pub at_start : (n root : ℕ) → List ℕ
at_start n root = tab n (λ j. if eqb j root then 0 else far)

abbrev pub is_settled : (settled : List Bool) (j : ℕ) → Bool
is_settled settled j = get_or settled j false

-- A unit below n that isn't settled, and no such unit is nearer; or n, where all are settled.
pub record Nearest (n : ℕ) (distances : List ℕ) (settled : List Bool) (i : ℕ) : Type 0 where
  pub at_most : i ≤ n
  pub open_yet : i < n → is_settled settled i ≡ false
  pub least : i < n → (j : ℕ) → j < n → is_settled settled j ≡ false → at distances i ≤ at distances j
  pub none : i ≡ n → (j : ℕ) → j < n → is_settled settled j ≡ true

-- Whether unit j is nearer than the nearest so far, if there is one.
abbrev pub is_nearer : (distances : List ℕ) (j : ℕ) → Option ℕ → Bool
is_nearer distances j (Some i) = ltb (at distances j) (at distances i)
is_nearer distances j None = true

-- The distances once unit i has offered its own over its row of links.
abbrev pub relaxed : (n : ℕ) (distances : List ℕ) (i : ℕ) (row : List ℕ) → List ℕ
relaxed n distances i row = tab n (λ j. min (at distances j) (plus (at distances i) (at row j)))
