-- Step A in arrays: arrays with zeros from the count on hold a shaped unit, and what is stored in them is what the arrays
-- of the changed unit hold.
use Prim.Native.Nat.{ℕ, ◌*◌, ◌≤◌, ◌<◌}
use native.Mathlib.Omega.{arith}
use mathlib.Core.List.{List, [], map}
use mathlib.Core.Path.{◌≡◌, sym, ap, ◌∙◌}
use borrow.Author.Tests.{lt-ltb}
use lib.ListN.{length, set, take, drop, length-map, length-take, length-drop, length-replicate}
use lib.Seq.{length-take-le, paste}
use Rattle.ground.specs.Limits.{unit_limit}
use Rattle.ground.specs.Rows.{zeros, filled, joined}
use Rattle.tree.specs.Recompute.{copy_of}
use Rattle.rules.specs.Event.{with_links}
use Rattle.rules.specs.Tables.{laid_row}
use Rattle.rules.specs.Unit.{Unit}
use Rattle.ground.proofs.Filled.{length_filled}
use Rattle.ground.proofs.Lists.{Wide, map_blocks, map_length, map_block}
use Rattle.ground.proofs.Nothing.{filled_zeros}
use Rattle.ground.proofs.Rows.{length_tab}
use Rattle.ground.proofs.Stored.{set_filled, map_set, block_filled}
use Rattle.rules.proofs.Laid.{ShapedUnit}
use Rattle.ground.proofs.Tests.{if_true}
use Rattle.recomputing.specs.Flat.{flat_length, copy_in, copies_in, row_in, with_row}
use Rattle.state.specs.Holding.{held_of, unit_of}
use Rattle.unit.specs.Noting.{Padded}
use Rattle.state.specs.declared.held.Held.{Held}
use Rattle.recomputing.proofs.CopiedRows.{copy-of, row_whole}
use Rattle.state.proofs.Holding.{holds_back}

module _ (n : ℕ) (low : n ≤ unit_limit) where
  -- The numbers of a row that is filled up have a place for each unit.
  row_length : (row : List ℕ) → row ≡ laid_row (take n row) → length (take n row) ≡ n
  row_length row e =
      let long : length row ≡ unit_limit =
      ap length e ∙ length_filled unit_limit (take n row) (omega (arith, length-take n row)) in
      length-take-le n row (omega arith)

  -- Storing into a row that is filled up.
  pub row_stored : (row : List ℕ) (k v : ℕ) → row ≡ laid_row (take n row) → k < n → set row k v ≡ laid_row (set (take n row) k v)
  row_stored row k v e l =
      ap (λ (r : List ℕ). set r k v) e ∙ set_filled unit_limit (take n row) k v (omega (arith, row_length row e))

  module _ (flat : List ℕ) (e : flat ≡ filled flat_length (joined (map laid_row (copies_in n flat)))) where
    -- Copies in a flat row are blocks.
    copies_wide : Wide unit_limit laid_row (copies_in n flat) []
    copies_wide k l =
        let below : k < n = rw (length_tab n (copy_in n flat)) at l in
        ap (λ (copy : List ℕ). length (laid_row copy)) (copy-of n flat k below)
        ∙ length_filled unit_limit (copy_in n flat k) (omega (arith, length-take n (drop (k * unit_limit) flat)))

    -- The flat row has its fixed length.
    flat-length : length flat ≡ flat_length
    flat-length =
        ap length e
        ∙ length_filled flat_length (joined (map laid_row (copies_in n flat)))
        (omega (arith, map_length unit_limit laid_row (copies_in n flat) [] copies_wide, length_tab n (copy_in n flat)))

    -- Each copy has a place for each unit.
    copy_length : (k : ℕ) → k < n → length (copy_of (copies_in n flat) k) ≡ n
    copy_length k l =
        ap length (copy-of n flat k l)
        ∙ length-take-le n (drop (k * unit_limit) flat) (omega (arith, length-drop (k * unit_limit) flat, flat-length))

-- The arrays that hold a shaped unit have zeros from the count on.
pub padded_held : (u : Unit) → ShapedUnit u → Padded (held_of u)
padded_held u s = record { count = s.limit; zeros = ap held_of (sym (holds_back u s)) }

module _ (h : Held) (p : Padded h) where
  -- The unit that such arrays hold is shaped.
  pub padded_shaped : ShapedUnit (unit_of h)
  padded_shaped =
      record {
        limit = p.count;
        costs = row_length h.count p.count h.costs (ap (λ (g : Held). g.costs) p.zeros);
        awaited = row_length h.count p.count h.awaited (ap (λ (g : Held). g.awaited) p.zeros);
        tree = row_length h.count p.count h.tree (ap (λ (g : Held). g.tree) p.zeros);
        feasible = row_length h.count p.count h.feasible (ap (λ (g : Held). g.feasible) p.zeros);
        copies = length_tab h.count (copy_in h.count h.copies);
        copy = copy_length h.count p.count h.copies (ap (λ (g : Held). g.copies) p.zeros);
      }

  -- Other costs, waits and copies in the arrays are those of the unit with other links.
  pub links_held : {r : Held} {costs' awaited' copies' : List ℕ} (costs awaited : List ℕ) (copies : List (List ℕ))
      → r
      ≡ record {
        count = h.count;
        me = h.me;
        costs = costs';
        awaited = awaited';
        tree = h.tree;
        feasible = h.feasible;
        copies = copies';
      }
      → costs' ≡ laid_row costs
      → awaited' ≡ laid_row awaited
      → copies' ≡ filled flat_length (joined (map laid_row copies))
      → r ≡ held_of (with_links (unit_of h) costs copies awaited)
  links_held costs awaited copies e q r s =
      e
      ∙ (λ i. record {
        count = h.count;
        me = h.me;
        costs = q i;
        awaited = r i;
        tree = (p.zeros i).tree;
        feasible = (p.zeros i).feasible;
        copies = s i;
      })

  module _ (k : ℕ) (l : k < h.count) where
    -- The copy of unit k as it is laid in the flat row.
    pub copy_laid : row_in h.copies k ≡ laid_row (copy_of (unit_of h).copies k)
    copy_laid =
        let e : h.copies ≡ (held_of (unit_of h)).copies = ap (λ (g : Held). g.copies) p.zeros in
        let copies = copies_in h.count h.copies in
        let inside : k < length copies = rw (length_tab h.count (copy_in h.count h.copies)) l in
        row_whole h.copies k (flat-length h.count p.count h.copies e) (omega (arith, p.count))
        ∙ ap (λ (flat : List ℕ). take unit_limit (drop (k * unit_limit) flat)) e
        ∙ map_block unit_limit laid_row copies [] (copies_wide h.count p.count h.copies e) _ k inside

    -- A row laid over the copy of unit k replaces it.
    pub copy_stored : (row : List ℕ) → length row ≡ h.count
        → with_row h.copies k (laid_row row) ≡ filled flat_length (joined (map laid_row (set (unit_of h).copies k row)))
    copy_stored row m =
        let e : h.copies ≡ (held_of (unit_of h)).copies = ap (λ (g : Held). g.copies) p.zeros in
        let copies = copies_in h.count h.copies in
        let inside : k < length (map laid_row copies) =
        rw (length-map copies laid_row, length_tab h.count (copy_in h.count h.copies)) l in
        if_true _ _ _ (lt-ltb k unit_limit (omega (arith, p.count)))
        ∙ ap (λ (flat : List ℕ). paste flat (k * unit_limit) (laid_row row) unit_limit) e
        ∙ block_filled unit_limit (map laid_row copies)
        (map_blocks unit_limit laid_row copies [] (copies_wide h.count p.count h.copies e)) k inside (laid_row row)
        (length_filled unit_limit row (omega (arith, p.count)))
        flat_length
        ∙ ap (λ (blocks : List (List ℕ)). filled flat_length (joined blocks)) (sym (map_set laid_row copies k row))

    -- A row of nothing does too.
    pub copy_emptied : with_row h.copies k (zeros unit_limit)
        ≡ filled flat_length (joined (map laid_row (set (unit_of h).copies k (zeros h.count))))
    copy_emptied =
        ap (with_row h.copies k)
        (sym (filled_zeros unit_limit h.count p.count))
        ∙ copy_stored (zeros h.count) (length-replicate h.count 0)
