-- What each table of the recomputation holds at a place.
use Prim.Native.Nat.{ℕ, ◌≤◌, ◌<◌}
use native.Mathlib.Omega.{arith}
use mathlib.Core.List.{List, []}
use mathlib.Core.Logic.{⊎_elim}
use mathlib.Core.Path.{◌≡◌, refl, ap, ◌∙◌}
use lib.Dec.{eqb, ltb}
use Rattle.std.specs.Prelude.{if◌then◌else◌}
use Rattle.ground.specs.Limits.{far}
use Rattle.ground.specs.Rows.{at, tab, least, lowest}
use Rattle.ground.proofs.Rows.{tab_at, lowest_le}
use Rattle.ground.proofs.Tests.{if_true, if_false, yes_or_no}
use Rattle.tree.specs.Recompute.{copy_of, through_neighbours, sum_through, preferred, copied_link, taken_links}
use Rattle.tree.specs.Shortest.{link}
use Rattle.tree.specs.Tree.{distance}

-- A number in a table of rows.
pub cell_at : (n : ℕ) (f : ℕ → ℕ → ℕ) (i j : ℕ) → i < n → j < n → link (tab n (λ k. tab n (f k))) i j ≡ f i j
cell_at n f i j hi hj =
    ap (λ (row : List ℕ). at row j) (tab_at n (λ k. tab n (f k)) i [] hi) ∙ tab_at n (f i) j 0 hj

module _ (n : ℕ) (costs : List ℕ) where
  -- The distance of unit j through neighbour k.
  abbrev pub through_cell : (copies : List (List ℕ)) (k j : ℕ) → ℕ
  through_cell copies k j = if eqb (at costs k) 0 then far else distance n k (copy_of copies k) j

  -- The table of distances through neighbours holds it.
  pub through_at : (copies : List (List ℕ)) (k j : ℕ) → k < n → j < n
      → link (through_neighbours n costs copies) k j ≡ through_cell copies k j
  unfolding through_neighbours
  through_at copies = cell_at n (through_cell copies)

  -- The least sum for unit j.
  abbrev pub nearest_for : (through : List (List ℕ)) (j : ℕ) → ℕ
  nearest_for through j = least n (λ k. sum_through costs through k j)

  -- The lowest neighbour with that sum.
  abbrev pub lowest_for : (through : List (List ℕ)) (j : ℕ) → ℕ
  lowest_for through j = lowest n (λ k. eqb (sum_through costs through k j) (nearest_for through j))

  -- The neighbour that is preferred for unit j, or the count.
  abbrev pub preferred_cell : (through : List (List ℕ)) (j : ℕ) → ℕ
  preferred_cell through j = if ltb (nearest_for through j) far then lowest_for through j else n

  -- The row of preferences holds it.
  pub preferred_at : (through : List (List ℕ)) (j : ℕ) → j < n → at (preferred n costs through) j ≡ preferred_cell through j
  unfolding preferred
  preferred_at through j h = tab_at n (preferred_cell through) j 0 h

  -- A preferred neighbour is a unit, or the count.
  pub preferred_most : (through : List (List ℕ)) (j : ℕ) → j < n → at (preferred n costs through) j ≤ n
  preferred_most through j h =
      ⊎_elim
      (λ t. omega (arith, preferred_at through j h ∙ if_true _ (lowest_for through j) n t, lowest_le n (λ k. eqb (sum_through costs through k j) (nearest_for through j))))
      (λ t. omega (arith, preferred_at through j h ∙ if_false _ (lowest_for through j) n t))
      (yes_or_no (ltb (nearest_for through j) far))

  -- The cost of the taken link from i to j.
  abbrev pub taken_cell : (me : ℕ) (copies : List (List ℕ)) (preferences : List ℕ) (i j : ℕ) → ℕ
  taken_cell me copies preferences i j =
      if eqb i me then (if eqb (at costs j) 0 then far else at costs j)
      else if eqb (at preferences i) n then far
      else copied_link (copy_of copies (at preferences i)) i j

  -- The table of taken links is made of these.
  pub taken_is : (me : ℕ) (copies : List (List ℕ)) (preferences : List ℕ)
      → tab n (λ i. tab n (taken_cell me copies preferences i)) ≡ taken_links n me costs copies preferences
  unfolding taken_links
  taken_is me copies preferences = refl

  -- The table of taken links holds it.
  pub taken_at : (me : ℕ) (copies : List (List ℕ)) (preferences : List ℕ) (i j : ℕ) → i < n → j < n
      → link (taken_links n me costs copies preferences) i j ≡ taken_cell me copies preferences i j
  unfolding taken_links
  taken_at me copies preferences = cell_at n (taken_cell me copies preferences)
