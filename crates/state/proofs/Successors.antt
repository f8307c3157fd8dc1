-- Successor sets as the code works them out, from the rows of distances through neighbours, are those of the rules.
use Prim.Native.Nat.{ℕ, ◌≤◌, ◌<◌}
use mathlib.Core.List.{List, []}
use mathlib.Core.Logic.{⊎_elim}
use mathlib.Core.Path.{◌≡◌, ap, ap₂, ◌∙◌}
use borrow.Author.Tests.{eq-eqb, ne_eqb, le-ltb}
use lib.Dec.{eqb, ltb}
use lib.ListN.{get_or}
use Rattle.std.specs.Prelude.{if◌then◌else◌}
use Rattle.ground.specs.Limits.{unit_limit, far}
use Rattle.ground.specs.Rows.{at, tab, filled, filled_rows}
use Rattle.tree.specs.Recompute.{copy_of, through_neighbours}
use Rattle.tree.specs.Tree.{distance}
use Rattle.rules.specs.Tables.{laid_row, laid_unit}
use Rattle.rules.specs.Unit.{Unit, is_successor, successor_set}
use Rattle.ground.proofs.Bits.{bits_ext}
use Rattle.ground.proofs.Filling.{filled_rows_same}
use Rattle.ground.proofs.Places.{at_filled}
use Rattle.ground.proofs.Rows.{tab_ext}
use Rattle.ground.proofs.Tests.{equal_or_not}
use Rattle.tree.proofs.Cells.{through_cell, through_at}
use Rattle.rules.proofs.Laid.{ShapedUnit}
use Rattle.recomputing.specs.Flat.{copies_in}
use Rattle.state.specs.Holding.{held_of, laid_with}
use Rattle.recomputing.specs.Successors.{set_over, sets_over}
use Rattle.state.specs.declared.held.Held.{Held}
use Rattle.state.proofs.Holding.{holds_back, laid_held}

-- Costs filled up to the unit limit are the same costs.
pub through_laid : (n : ℕ) (costs : List ℕ) (copies : List (List ℕ))
    → through_neighbours n (laid_row costs) copies ≡ through_neighbours n costs copies
unfolding through_neighbours
through_laid n costs copies =
    tab_ext n (λ k. tab n (through_cell n (laid_row costs) copies k)) (λ k. tab n (through_cell n costs copies k))
    (λ k l.
    ap (λ (cost : ℕ). tab n (λ j. if eqb cost 0 then far else distance n k (copy_of copies k) j))
    (at_filled unit_limit costs k))

module _ (u : Unit) (near : (j : ℕ) → j < u.count → at u.feasible j ≤ far) where
  -- A neighbour's distance is compared; a unit whose link is down is no successor.
  successor_at : (k j : ℕ) → j < u.count
      → ltb (through_cell u.count u.costs u.copies k j) (at u.feasible j) ≡ is_successor u j k
  unfolding is_successor
  successor_at k j h =
      ⊎_elim
      (λ e. rw (eq-eqb (at u.costs k) 0 e) (le-ltb far (at u.feasible j) (near j h)))
      (λ d. rw (ne_eqb (at u.costs k) 0 d))
      (equal_or_not (at u.costs k) 0)

  -- The successor sets that the code works out are the unit's.
  pub sets_held : filled unit_limit
      (sets_over u.count
      (filled_rows unit_limit (through_neighbours u.count u.costs u.copies))
      (laid_row u.feasible))
      ≡ laid_row (tab u.count (successor_set u))
  unfolding successor_set
  sets_held =
      let n = u.count in
      let through = through_neighbours n u.costs u.copies in
      let rows = filled_rows unit_limit through in
      ap laid_row
      (tab_ext n (set_over n rows (laid_row u.feasible)) (successor_set u)
      (λ j h.
      bits_ext n (λ k. ltb (at (get_or rows k []) j) (at (laid_row u.feasible) j)) (is_successor u j)
      (λ k l.
      rw (
        filled_rows_same unit_limit through k j,
        through_at n u.costs u.copies k j l h,
        at_filled unit_limit u.feasible j,
      ) (successor_at k j h))))

  -- The same from costs as the code holds them.
  pub sets_laid : filled unit_limit
      (sets_over u.count
      (filled_rows unit_limit (through_neighbours u.count (laid_row u.costs) u.copies))
      (laid_row u.feasible))
      ≡ laid_row (tab u.count (successor_set u))
  sets_laid = rw (through_laid u.count u.costs u.copies) sets_held

module _ (u : Unit) (s : ShapedUnit u) (near : (j : ℕ) → j < u.count → at u.feasible j ≤ far) where
  -- The successor sets that the code works out from arrays that hold a unit.
  pub sets_of : (h : Held) → h ≡ held_of u
      → filled unit_limit
      (sets_over h.count
      (filled_rows unit_limit (through_neighbours h.count h.costs (copies_in h.count h.copies)))
      h.feasible)
      ≡ laid_row (tab u.count (successor_set u))
  sets_of h e =
      ap
      (λ (a : Held).
      filled unit_limit
      (sets_over a.count
      (filled_rows unit_limit (through_neighbours a.count a.costs (copies_in a.count a.copies)))
      a.feasible))
      e
      ∙ ap
      (λ (copies : List (List ℕ)).
      filled unit_limit
      (sets_over u.count
      (filled_rows unit_limit (through_neighbours u.count (laid_row u.costs) copies))
      (laid_row u.feasible)))
      (ap (λ (v : Unit). v.copies) (holds_back u s))
      ∙ sets_laid u near

  -- What the code lays with them is what the unit lays out.
  pub laid_of : (h : Held) (through : List (List ℕ)) (sets table : List ℕ) → h ≡ held_of u
      → through ≡ filled_rows unit_limit (through_neighbours h.count h.costs (copies_in h.count h.copies))
      → sets ≡ filled unit_limit (sets_over h.count through h.feasible)
      → table ≡ laid_with h sets
      → table ≡ laid_unit u
  laid_of h through sets table e t q l =
      let same-sets : sets ≡ laid_row (tab u.count (successor_set u)) =
      q ∙ ap (λ (rows : List (List ℕ)). filled unit_limit (sets_over h.count rows h.feasible)) t ∙ sets_of h e in
      l ∙ ap₂ laid_with e same-sets ∙ laid_held u s
