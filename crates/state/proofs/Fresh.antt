-- The fresh unit in arrays: each row is of nothing but the feasible distances, and the arrays lay out its table.
use Prim.Native.Nat.{ℕ, ◌*◌, ◌≤◌}
use native.Mathlib.Omega.{arith}
use mathlib.Core.List.{List, [], map}
use mathlib.Core.Path.{◌≡◌, sym, ap, ◌∙◌}
use lib.Dec.{eqb}
use lib.ListN.{length, length-replicate}
use Rattle.std.specs.Prelude.{if◌then◌else◌}
use Rattle.ground.specs.Limits.{unit_limit, far}
use Rattle.ground.specs.Rows.{tab, zeros, filled, joined}
use Rattle.rules.specs.Tables.{laid_row, laid_unit}
use Rattle.rules.specs.Unit.{fresh_unit, is_successor, successor_set}
use Rattle.ground.proofs.Lists.{map_tab, at_zeros}
use Rattle.ground.proofs.Nothing.{filled_zeros, joined_zeros, tab_zeros, bits_none}
use Rattle.ground.proofs.Rows.{length_tab, tab_at}
use Rattle.rules.proofs.Laid.{ShapedUnit}
use Rattle.recomputing.specs.Flat.{flat_length}
use Rattle.state.specs.Holding.{laid_with}
use Rattle.state.proofs.Holding.{laid_held}

module _ (n me : ℕ) (low : n ≤ unit_limit) where
  -- The fresh unit is shaped.
  pub fresh_shaped : ShapedUnit (fresh_unit n me)
  unfolding fresh_unit
  fresh_shaped =
      record {
        limit = low;
        costs = length-replicate n 0;
        awaited = length-replicate n 0;
        tree = length-replicate n 0;
        feasible = length_tab n (λ j. if eqb j me then 0 else far);
        copies = length_tab n (λ k. zeros n);
        copy = λ k l. ap length (tab_at n (λ i. zeros n) k [] l) ∙ length-replicate n 0;
      }

  -- Its copies hold nothing.
  fresh_copies : filled flat_length (joined (map laid_row (tab n (λ k. zeros n)))) ≡ zeros flat_length
  fresh_copies =
      ap (λ (rows : List (List ℕ)). filled flat_length (joined rows)) (map_tab laid_row n (λ k. zeros n))
      ∙ ap (λ (row : List ℕ). filled flat_length (joined (tab n (λ k. row)))) (filled_zeros unit_limit n low)
      ∙ ap (filled flat_length) (joined_zeros unit_limit n)
      ∙ filled_zeros flat_length (n * unit_limit) (omega arith)

  -- It has no neighbour, so no successor.
  fresh_sets : laid_row (tab n (successor_set (fresh_unit n me))) ≡ zeros unit_limit
  unfolding fresh_unit successor_set is_successor
  fresh_sets =
      ap laid_row
      (tab_zeros n (successor_set (fresh_unit n me)) (λ j l.
      bits_none n (is_successor (fresh_unit n me) j) (λ k h. rw (at_zeros n k))))
      ∙ filled_zeros unit_limit n low

  -- Arrays of nothing but the feasible distances lay out its table.
  pub fresh_laid : (feasible : List ℕ) → feasible ≡ laid_row (fresh_unit n me).feasible
      → laid_with
      (record {
        count = n;
        me = me;
        costs = zeros unit_limit;
        awaited = zeros unit_limit;
        tree = zeros unit_limit;
        feasible = feasible;
        copies = zeros flat_length;
      })
      (zeros unit_limit)
      ≡ laid_unit (fresh_unit n me)
  unfolding fresh_unit
  fresh_laid feasible e =
      let row : zeros unit_limit ≡ laid_row (zeros n) = sym (filled_zeros unit_limit n low) in
      let copies = sym fresh_copies in
      let sets = sym fresh_sets in
      (λ i. laid_with
      (record {
        count = n;
        me = me;
        costs = row i;
        awaited = row i;
        tree = row i;
        feasible = e i;
        copies = copies i;
      })
      (sets i))
      ∙ laid_held (fresh_unit n me) fresh_shaped
