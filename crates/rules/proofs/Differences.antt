-- The differences between two rows: the changes of the units one after the other, at most one for each, and what one unit
-- more adds.
use Prim.Native.Nat.{ℕ, zero, suc, ◌+◌, ◌≤◌, ◌<◌}
use native.Mathlib.Nat.{le_refl}
use native.Mathlib.Numerals.{add-one}
use native.Mathlib.Omega.{arith}
use mathlib.Core.Bool.{Bool, true, false}
use mathlib.Core.List.{List, [], ◌∷◌, ◌++◌, append-nil}
use mathlib.Core.Logic.{◌≢◌}
use mathlib.Core.Path.{◌≡◌, refl, sym, ap, ◌∙◌}
use borrow.Author.Tests.{eq-eqb, ne_eqb}
use lib.Dec.{eqb}
use lib.ListN.{length}
use Rattle.std.specs.Prelude.{if◌then◌else◌}
use Rattle.ground.specs.Rows.{at, tab, joined}
use Rattle.ground.proofs.Joined.{joined_suc, joined_most}
use Rattle.ground.proofs.Rows.{tab_ext}
use Rattle.ground.proofs.Tests.{if_true, if_false}
use Rattle.rules.specs.Message.{change, body_for, differences}

-- The change of unit j, where its entry is another in the new row.
abbrev pub change_of : (old new : List ℕ) (j : ℕ) → List ℕ
change_of old new j = if eqb (at old j) (at new j) then [] else change j (body_for (at new j)) ∷ []

-- It is at most one.
pub one_change : (old new : List ℕ) (j : ℕ) → length (change_of old new j) ≤ 1
one_change old new j = by (eqb (at old j) (at new j))
  where
    by : (b : Bool) → length (if b then [] else change j (body_for (at new j)) ∷ []) ≤ 1
    by true = omega arith
    by false = omega arith

-- The differences are the changes of the units, one after the other.
pub differences_joined : (n : ℕ) (old new : List ℕ) → differences n old new ≡ joined (tab n (change_of old new))
unfolding differences
differences_joined zero old new = refl
differences_joined (suc n) old new =
    ap (λ (zs : List ℕ). zs ++ change_of old new n) (differences_joined n old new) ∙ sym (joined_suc n (change_of old new))

-- There are at most as many as units.
pub differences_most : (n : ℕ) (old new : List ℕ) → length (differences n old new) ≤ n
differences_most n old new =
    omega (
      arith,
      ap length (differences_joined n old new),
      joined_most 1 n (change_of old new) (λ j l. one_change old new j) n (le_refl n),
    )

-- Rows that agree below the count have the same differences.
pub differences_ext : (n : ℕ) (old new old' new' : List ℕ) → ((j : ℕ) → j < n → at old j ≡ at old' j)
    → ((j : ℕ) → j < n → at new j ≡ at new' j) → differences n old new ≡ differences n old' new'
differences_ext n old new old' new' o w =
    differences_joined n old new
    ∙ ap joined (tab_ext n (change_of old new) (change_of old' new') (λ j l. rw (o j l, w j l)))
    ∙ sym (differences_joined n old' new')

-- A unit whose entry stays adds nothing.
pub differences_same : (j : ℕ) (old new : List ℕ) → at old j ≡ at new j → differences (j + 1) old new ≡ differences j old new
unfolding differences
differences_same j old new e =
    rw add-one
    (ap (λ (zs : List ℕ). differences j old new ++ zs) (if_true _ [] _ (eq-eqb (at old j) (at new j) e))
    ∙ append-nil (differences j old new))

-- A unit whose entry is another adds its change.
pub differences_other : (j : ℕ) (old new : List ℕ) → at old j ≢ at new j
    → differences (j + 1) old new ≡ differences j old new ++ (change j (body_for (at new j)) ∷ [])
unfolding differences
differences_other j old new d =
    rw add-one
    (ap (λ (zs : List ℕ). differences j old new ++ zs) (if_false _ [] _ (ne_eqb (at old j) (at new j) d)))
