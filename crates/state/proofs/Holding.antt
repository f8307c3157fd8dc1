-- Units in arrays: what is loaded from a table is the unit that the table holds, and what is laid is what it lays out.
use Prim.Native.Nat.{ℕ, suc, ◌+◌, ◌-◌, ◌*◌, ◌/◌, ◌%◌, ◌≤◌, ◌<◌}
use native.Mathlib.Omega.{arith}
use mathlib.Core.List.{List, [], ◌∷◌, ◌++◌, map, append_assoc}
use mathlib.Core.Logic.{⊎_elim}
use mathlib.Core.Path.{◌≡◌, refl, sym, ap, ◌∙◌}
use borrow.Author.Tests.{lt-ltb, le-ltb}
use lib.ListN.{length, get_or, set, take, drop, length-map, length-append, length-take, get_or-eq_default}
use lib.Seq.{take_at, take_all, get_or-take, get_or-drop, ext_get_or}
use Rattle.ground.specs.Limits.{unit_limit}
use Rattle.ground.specs.Rows.{at, tab, zeros, joined}
use Rattle.rules.specs.Tables.{copy_at, unit_words, part, laid_row, laid_unit, unit_from}
use Rattle.rules.specs.Unit.{Unit, successor_set}
use Rattle.ground.proofs.Filled.{length_filled, take_filled}
use Rattle.ground.proofs.Lists.{Wide, map_length, map_first, map_blocks, map_at, filled_past}
use Rattle.ground.proofs.Places.{at_filled, filled_behind, block_at, take_laid}
use Rattle.ground.proofs.Rows.{length_tab, tab_at, tab_ext, tab_row}
use Rattle.ground.proofs.Tests.{less_or_not}
use Rattle.rules.proofs.Laid.{ShapedUnit, unit_shaped}
use Rattle.recomputing.specs.Flat.{flat_length, copy_in}
use Rattle.slices.specs.Slices.{laid_over}
use Rattle.slices.proofs.Overlaid.{laid_length}
use Rattle.slices.proofs.Stretches.{replaced}
use Rattle.state.specs.Holding.{held_of, unit_of, laid_with, copy_place, flat_copies}

-- Five rows, one after the other.
five : (a b c d e : List ℕ) → length a ≡ unit_limit → length b ≡ unit_limit → length c ≡ unit_limit → length d ≡ unit_limit
    → length e ≡ unit_limit → length (a ++ b ++ c ++ d ++ e) ≡ 5 * unit_limit
five a b c d e p q r s t = simp length-append (omega arith)

module _ (u : Unit) (s : ShapedUnit u) where
  -- Copies filled up to the unit limit are blocks.
  copy_blocks : Wide unit_limit laid_row u.copies []
  copy_blocks k l =
      length_filled unit_limit (get_or u.copies k [])
      (omega (arith, s.copy k (omega (arith, s.copies)), s.limit, s.copies))

  -- They have together the unit limit's numbers for each.
  length_copies : length (joined (map laid_row u.copies)) ≡ u.count * unit_limit
  length_copies = omega (arith, map_length unit_limit laid_row u.copies [] copy_blocks, s.copies)

  -- What is free behind them.
  abbrev free : List ℕ
  free = zeros (flat_length - length (joined (map laid_row u.copies)))

  -- A copy is read back from the flat row.
  copy_back : (k : ℕ) → k < u.count → copy_in u.count (held_of u).copies k ≡ get_or u.copies k []
  copy_back k l =
      let found = map_first unit_limit laid_row u.copies [] copy_blocks free k (omega (arith, s.copies)) in
      rw (found.1, append_assoc) (take_at (get_or u.copies k []) _ u.count (s.copy k l))

  -- The unit that its arrays hold is the unit.
  pub holds_back : unit_of (held_of u) ≡ u
  holds_back =
      let copies : tab u.count (copy_in u.count (held_of u).copies) ≡ u.copies =
      tab_ext u.count (copy_in u.count (held_of u).copies) (λ k. get_or u.copies k []) copy_back
      ∙ tab_row u.count u.copies [] s.copies in
      λ i. record {
        count = u.count;
        me = u.me;
        costs = take_filled unit_limit u.costs u.count s.costs i;
        awaited = take_filled unit_limit u.awaited u.count s.awaited i;
        tree = take_filled unit_limit u.tree u.count s.tree i;
        feasible = take_filled unit_limit u.feasible u.count s.feasible i;
        copies = copies i;
      }

  -- The rows before the copies.
  abbrev rows : List ℕ
  rows =
      laid_row u.costs
      ++ laid_row u.awaited
      ++ laid_row u.tree
      ++ laid_row u.feasible
      ++ laid_row (tab u.count (successor_set u))

  -- They have together five times the unit limit's numbers.
  length_rows : length rows ≡ 5 * unit_limit
  length_rows =
      five
      (laid_row u.costs) (laid_row u.awaited) (laid_row u.tree) (laid_row u.feasible)
      (laid_row (tab u.count (successor_set u)))
      (length_filled unit_limit u.costs (omega (arith, s.costs, s.limit)))
      (length_filled unit_limit u.awaited (omega (arith, s.awaited, s.limit)))
      (length_filled unit_limit u.tree (omega (arith, s.tree, s.limit)))
      (length_filled unit_limit u.feasible (omega (arith, s.feasible, s.limit)))
      (length_filled unit_limit (tab u.count (successor_set u))
      (omega (arith, length_tab u.count (successor_set u), s.limit)))

  -- The arrays and the successor sets lay out what the unit does.
  pub laid_held : laid_with (held_of u) (laid_row (tab u.count (successor_set u))) ≡ laid_unit u
  unfolding laid_unit
  laid_held =
      sym
      (filled_behind (copy_at 0) flat_length (u.count ∷ u.me ∷ rows) (joined (map laid_row u.copies))
      (ap (λ (k : ℕ). suc (suc k)) length_rows))

  -- Place r of copy k in the flat row.
  copies_at : (k r : ℕ) → k < u.count → r < unit_limit
      → at (held_of u).copies (k * unit_limit + r) ≡ at (get_or u.copies k []) r
  copies_at k r l h =
      let inside : k < length u.copies = omega (arith, s.copies) in
      block_at unit_limit (map laid_row u.copies) free
      (map_blocks unit_limit laid_row u.copies [] copy_blocks)
      k r (rw (length-map u.copies laid_row) inside) h
      ∙ ap (λ (row : List ℕ). at row r) (map_at laid_row u.copies k [] [] inside)
      ∙ at_filled unit_limit (get_or u.copies k []) r

  -- Past the copies there are zeros.
  copies_past : (i : ℕ) → u.count * unit_limit ≤ i → at (held_of u).copies i ≡ 0
  copies_past i h = filled_past flat_length (joined (map laid_row u.copies)) i (omega (arith, length_copies))

  -- The flat row has its fixed length.
  pub length_flat : length (held_of u).copies ≡ flat_length
  length_flat = length_filled flat_length (joined (map laid_row u.copies)) (omega (arith, length_copies, s.limit))

-- A place past a part that is taken.
take_past : (n : ℕ) (xs : List ℕ) (i : ℕ) → n ≤ i → at (take n xs) i ≡ 0
take_past n xs i h = get_or-eq_default (take n xs) 0 {n = i} (omega (arith, length-take n xs))

module _ (words : List ℕ) (h : at words 0 ≤ unit_limit) (e : length words ≡ unit_words) where
  -- The numbers of copy k in a table.
  copy-in : (k : ℕ) → k < at words 0 → get_or (unit_from words).copies k [] ≡ part words (copy_at k) (at words 0)
  unfolding unit_from
  copy-in k l = tab_at (at words 0) (λ j. part words (copy_at j) (at words 0)) k [] l

  -- Place r of row k of the table's copies, where it counts.
  place_in : (k r : ℕ) → k < at words 0 → r < at words 0
      → at (held_of (unit_from words)).copies (k * unit_limit + r) ≡ at words (copy_at k + r)
  unfolding unit_from
  place_in k r l m =
      copies_at (unit_from words) (unit_shaped words h e) k r l (omega arith)
      ∙ ap (λ (row : List ℕ). at row r) (copy-in k l)
      ∙ get_or-take (at words 0) (drop (copy_at k) words) r 0 m
      ∙ get_or-drop (copy_at k) words r 0

  -- Any other place is 0.
  place_out : (k r : ℕ) → k < at words 0 → at words 0 ≤ r → r < unit_limit
      → at (held_of (unit_from words)).copies (k * unit_limit + r) ≡ 0
  unfolding unit_from
  place_out k r l m b =
      copies_at (unit_from words) (unit_shaped words h e) k r l b
      ∙ ap (λ (row : List ℕ). at row r) (copy-in k l)
      ∙ take_past (at words 0) (drop (copy_at k) words) r m

  -- Each place is loaded.
  place_loaded : (i : ℕ) → copy_place (at words 0) words i ≡ at (held_of (unit_from words)).copies i
  unfolding unit_from
  place_loaded i =
      let whole : i / unit_limit * unit_limit + i % unit_limit ≡ i = omega arith in
      let there = ap (at (held_of (unit_from words)).copies) (sym whole) in
      let place : copy_at (i / unit_limit) + i % unit_limit ≡ copy_at 0 + i = omega arith in
      ⊎_elim
      (λ row.
      ⊎_elim
      (λ col.
      rw (lt-ltb (i / unit_limit) (at words 0) row, lt-ltb (i % unit_limit) (at words 0) col)
      (sym (there ∙ place_in (i / unit_limit) (i % unit_limit) row col ∙ ap (at words) place)))
      (λ col.
      rw (lt-ltb (i / unit_limit) (at words 0) row, le-ltb (i % unit_limit) (at words 0) col)
      (sym (there ∙ place_out (i / unit_limit) (i % unit_limit) row col (omega arith))))
      (less_or_not (i % unit_limit) (at words 0)))
      (λ row.
      rw (le-ltb (i / unit_limit) (at words 0) row)
      (sym (copies_past (unit_from words) (unit_shaped words h e) i (omega arith))))
      (less_or_not (i / unit_limit) (at words 0))

  -- The copies that are loaded are those of the table's unit.
  pub copies_loaded : flat_copies (at words 0) words ≡ (held_of (unit_from words)).copies
  copies_loaded =
      let long : length (flat_copies (at words 0) words) ≡ flat_length =
      length_tab flat_length (copy_place (at words 0) words) in
      ext_get_or 0 (flat_copies (at words 0) words) (held_of (unit_from words)).copies
      (long ∙ sym (length_flat (unit_from words) (unit_shaped words h e)))
      (λ i l. tab_at flat_length (copy_place (at words 0) words) i 0 (rw long at l) ∙ place_loaded i)

-- A table of the fixed length that begins with the k numbers xs.
pub record Begins (k : ℕ) (xs d : List ℕ) : Type 0 where
  pub long : length d ≡ unit_words
  pub first : take k d ≡ xs

-- It begins with two numbers once they are stored.
pub begins_two : (count me : ℕ) (d : List ℕ) → length d ≡ unit_words
    → Begins 2 (count ∷ me ∷ []) (set (set d 0 count) 1 me)
begins_two count me [] l = absurd (omega arith)
begins_two count me (x ∷ []) l = absurd (omega arith)
begins_two count me (x ∷ y ∷ d) l = record { long = l; first = refl }

-- It begins with more once a row is laid behind them.
pub begins_more : (k n : ℕ) (xs d row after : List ℕ) → Begins k xs d → k + n ≤ unit_words → length row ≡ n
    → after ≡ laid_over d k row → Begins (k + n) (xs ++ row) after
begins_more k n xs d row after b h l e =
    record {
      long = ap length e ∙ laid_length d k row ∙ b.long;
      first =
          ap (take (k + n)) (e ∙ replaced d k n (omega (arith, b.long)) row l refl)
          ∙ take_laid d k n row xs (omega (arith, b.long)) l b.first;
    }

-- It is whole once it begins with all of its numbers.
pub begins_all : (xs d : List ℕ) → Begins unit_words xs d → d ≡ xs
begins_all xs d b = sym (take_all unit_words d (omega (arith, b.long))) ∙ b.first
