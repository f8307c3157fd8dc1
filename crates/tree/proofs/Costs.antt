-- Recomputing reads the link costs of the units below the count and nothing else of them.
use Prim.Native.Nat.{ℕ, ◌<◌}
use mathlib.Core.List.{List}
use mathlib.Core.Path.{◌≡◌, ap, ap₂, ◌∙◌}
use lib.Dec.{eqb, ltb}
use Rattle.std.specs.Prelude.{if◌then◌else◌}
use Rattle.ground.specs.Limits.{far}
use Rattle.ground.specs.Rows.{at, tab}
use Rattle.ground.proofs.Rows.{tab_ext, least_ext, lowest_ext}
use Rattle.tree.specs.Recompute.{copy_of, through_neighbours, sum_through, preferred, copied_link, taken_links, shortest_tree, recomputed}
use Rattle.tree.specs.Shortest.{link}
use Rattle.tree.specs.Tree.{plus, distance}
use Rattle.tree.proofs.Cells.{through_cell, nearest_for, preferred_cell, taken_cell}

module _ (n : ℕ) (a b : List ℕ) (e : (k : ℕ) → k < n → at a k ≡ at b k) where
  -- The distances through neighbours.
  pub through_costs : (copies : List (List ℕ)) → through_neighbours n a copies ≡ through_neighbours n b copies
  unfolding through_neighbours
  through_costs copies =
      tab_ext n (λ k. tab n (through_cell n a copies k)) (λ k. tab n (through_cell n b copies k)) (λ k h.
      ap (λ (c : ℕ). tab n (λ j. if eqb c 0 then far else distance n k (copy_of copies k) j)) (e k h))

  -- The preferred neighbours.
  preferred_costs : (through : List (List ℕ)) → preferred n a through ≡ preferred n b through
  unfolding preferred
  preferred_costs through = tab_ext n (preferred_cell n a through) (preferred_cell n b through) each
    where
      sums : (j k : ℕ) → k < n → sum_through a through k j ≡ sum_through b through k j
      sums j k h = ap (λ (c : ℕ). plus c (link through k j)) (e k h)

      nearest : (j : ℕ) → nearest_for n a through j ≡ nearest_for n b through j
      nearest j = least_ext n (λ k. sum_through a through k j) (λ k. sum_through b through k j) (sums j)

      each : (j : ℕ) → j < n → preferred_cell n a through j ≡ preferred_cell n b through j
      each j h =
          ap₂ (λ (x l : ℕ). if ltb x far then l else n) (nearest j)
          (lowest_ext n
          (λ k. eqb (sum_through a through k j) (nearest_for n a through j))
          (λ k. eqb (sum_through b through k j) (nearest_for n b through j))
          (λ k l. ap₂ eqb (sums j k l) (nearest j)))

  -- The taken links.
  taken_costs : (me : ℕ) (copies : List (List ℕ)) (preferences : List ℕ)
      → taken_links n me a copies preferences ≡ taken_links n me b copies preferences
  unfolding taken_links
  taken_costs me copies preferences =
      tab_ext n (λ i. tab n (taken_cell n a me copies preferences i)) (λ i. tab n (taken_cell n b me copies preferences i)) (λ i h.
      tab_ext n (taken_cell n a me copies preferences i) (taken_cell n b me copies preferences i) (λ j l.
      ap (λ (c : ℕ).
      if eqb i me then (if eqb c 0 then far else c)
      else if eqb (at preferences i) n then far
      else copied_link (copy_of copies (at preferences i)) i j) (e j l)))

  -- The recomputed tree.
  pub recomputed_costs : (me : ℕ) (copies : List (List ℕ)) → recomputed n me a copies ≡ recomputed n me b copies
  unfolding recomputed
  recomputed_costs me copies =
      ap (shortest_tree n me)
      (taken_costs me copies (preferred n a (through_neighbours n a copies))
      ∙ ap (taken_links n me b copies)
      (preferred_costs (through_neighbours n a copies) ∙ ap (preferred n b) (through_costs copies)))
