-- Copies in one flat row: what a copy holds at a place, and the rows that are made from copies.
use Prim.Native.Nat.{ℕ, ◌*◌, ◌≤◌, ◌<◌}
use native.Mathlib.Omega.{arith}
use mathlib.Core.Bool.{Bool, true, false, not, ◌||◌}
use mathlib.Core.List.{List, []}
use mathlib.Core.Logic.{◌≢◌, ⊎_elim}
use mathlib.Core.Path.{◌≡◌, refl, sym, ap, ◌∙◌}
use borrow.Author.Tests.{eq-eqb, ne_eqb, eqb-true, lt-ltb, le-leb, lt-leb}
use lib.Dec.{eqb, ltb, leb}
use lib.ListN.{length, take, drop}
use lib.Seq.{get_or-take, take-take}
use Rattle.std.specs.Prelude.{if◌then◌else◌}
use Rattle.ground.specs.Limits.{unit_limit, far}
use Rattle.ground.specs.Rows.{at, tab, zeros, filled, filled_rows}
use Rattle.tree.specs.Recompute.{copy_of, through_neighbours, copied_link, taken_links}
use Rattle.tree.specs.Shortest.{link}
use Rattle.tree.specs.Tree.{nothing, head_of, cost_of, distance}
use Rattle.ground.proofs.Limits.{counted_all}
use Rattle.ground.proofs.Rows.{tab_at, tab_ext}
use Rattle.ground.proofs.Tests.{both_of, and_false, if_true, if_false, yes_or_no}
use Rattle.tree.proofs.Cells.{through_cell, taken_cell, taken_at}
use Rattle.recomputing.specs.Flat.{flat_length, copy_in, copies_in, is_whole, row_in, distances_in, through_in}
use Rattle.recomputing.specs.Legal.{legal_link, own_links, link_from}

-- The copy of unit k among the copies.
pub copy-of : (n : ℕ) (flat : List ℕ) (k : ℕ) → k < n → copy_of (copies_in n flat) k ≡ copy_in n flat k
copy-of n flat k h = tab_at n (copy_in n flat) k [] h

-- The row of unit k, of copies with a row for each unit.
pub row_whole : (flat : List ℕ) (k : ℕ) → length flat ≡ flat_length → k < unit_limit → row_in flat k ≡ copy_in unit_limit flat k
row_whole flat k long below =
    if_true _ _ _ (both_of (ltb k unit_limit) _ (lt-ltb k unit_limit below) (eq-eqb (length flat) flat_length long))

-- No row, of other copies.
pub row_none : (flat : List ℕ) (k : ℕ) → length flat ≢ flat_length → row_in flat k ≡ zeros unit_limit
row_none flat k h = if_false _ _ _ (and_false (ltb k unit_limit) _ (ne_eqb (length flat) flat_length h))

module _ (n : ℕ) (flat : List ℕ) (k : ℕ) (long : length flat ≡ flat_length) (low : n ≤ unit_limit) (below : k < n) where
  -- It is the copy with what stands after it.
  whole : row_in flat k ≡ copy_in unit_limit flat k
  whole = row_whole flat k long (omega arith)

  -- So it holds the copy's entries.
  pub row-at : (j : ℕ) → j < n → at (row_in flat k) j ≡ at (copy_in n flat k) j
  row-at j h =
      ap (λ (row : List ℕ). at row j) whole
      ∙ get_or-take unit_limit (drop (k * unit_limit) flat) j 0 (omega arith)
      ∙ sym (get_or-take n (drop (k * unit_limit) flat) j 0 h)

  -- Its first n numbers are the copy.
  pub row_copy : take n (row_in flat k) ≡ copy_in n flat k
  row_copy = ap (take n) whole ∙ take-take n unit_limit (drop (k * unit_limit) flat) low

  -- The distances in it are those in the copy.
  pub row_distances : distances_in n k (row_in flat k) ≡ filled unit_limit (tab n (distance n k (copy_in n flat k)))
  row_distances =
      ap (filled unit_limit) (counted_all n _ low)
      ∙ ap (λ (copy : List ℕ). filled unit_limit (tab n (distance n k copy))) row_copy

-- Copies that are worked with, and such as are not.
pub whole_of : (n : ℕ) (flat : List ℕ) → n ≤ unit_limit → length flat ≡ flat_length → is_whole n flat ≡ true
whole_of n flat low long = both_of (leb n unit_limit) _ (le-leb n unit_limit low) (eq-eqb (length flat) flat_length long)

pub not_counted : (n : ℕ) (flat : List ℕ) → unit_limit < n → is_whole n flat ≡ false
not_counted n flat h = rw (lt-leb n unit_limit h)

pub not_long : (n : ℕ) (flat : List ℕ) → length flat ≢ flat_length → is_whole n flat ≡ false
not_long n flat h = and_false (leb n unit_limit) _ (ne_eqb (length flat) flat_length h)

-- No distances through neighbours from such as are not.
pub through_none : (n : ℕ) (costs flat : List ℕ) → is_whole n flat ≡ false → through_in n costs flat ≡ []
through_none n costs flat h = if_false (is_whole n flat) _ [] h

-- From the others they are those of the rules.
pub through_whole : (n : ℕ) (costs flat : List ℕ) → n ≤ unit_limit → length flat ≡ flat_length
    → filled_rows unit_limit (through_in n costs flat) ≡ filled_rows unit_limit (through_neighbours n costs (copies_in n flat))
through_whole n costs flat low long = ap (filled_rows unit_limit) (if_true (is_whole n flat) _ [] (whole_of n flat low long))

-- Row k of the distances through neighbours is unreachable where the link is down.
pub through_down : (n : ℕ) (costs flat : List ℕ) (k : ℕ) → at costs k ≡ 0
    → tab n (λ j. far) ≡ tab n (through_cell n costs (copies_in n flat) k)
through_down n costs flat k e =
    tab_ext n (λ j. far) (through_cell n costs (copies_in n flat) k) (λ j h. sym (if_true _ far _ (eq-eqb (at costs k) 0 e)))

-- Else it holds the distances in k's copy.
pub through_up : (n : ℕ) (costs flat : List ℕ) (k : ℕ) → k < n → at costs k ≢ 0
    → tab n (distance n k (copy_in n flat k)) ≡ tab n (through_cell n costs (copies_in n flat) k)
through_up n costs flat k l e =
    tab_ext n (distance n k (copy_in n flat k)) (through_cell n costs (copies_in n flat) k) (λ j h.
    sym (if_false _ far _ (ne_eqb (at costs k) 0 e) ∙ ap (λ (t : List ℕ). distance n k t j) (copy-of n flat k l)))

-- An entry's link, with a link's cost or none, is what its copy gives: an entry that is nothing costs 0.
entry_link : (i e : ℕ) → link_from i e ≡ legal_link (if eqb e nothing || not (eqb (head_of e) i) then far else cost_of e)
entry_link i e =
    ⊎_elim
    (λ t. ap (link_from i) (eqb-true e nothing t) ∙ none (eqb 0 i) ∙ sym (ap (λ (b : Bool). legal_link (if b || not (eqb (head_of e) i) then far else cost_of e)) t))
    (λ t. some (eqb (head_of e) i) ∙ sym (ap (λ (b : Bool). legal_link (if b || not (eqb (head_of e) i) then far else cost_of e)) t))
    (yes_or_no (eqb e nothing))
  where
    none : (b : Bool) → (if b then legal_link 0 else far) ≡ far
    none true = refl
    none false = refl

    some : (b : Bool) → (if b then legal_link (cost_of e) else far) ≡ legal_link (if not b then far else cost_of e)
    some true = refl
    some false = refl

-- Row i of the taken links that have a link's cost.
abbrev pub taken_row : (n me : ℕ) (costs flat preferences : List ℕ) (i : ℕ) → List ℕ
taken_row n me costs flat preferences i =
    tab n (λ j. legal_link (link (taken_links n me costs (copies_in n flat) preferences) i j))

module _ (n me : ℕ) (costs flat preferences : List ℕ) (i : ℕ) (here : i < n) where
  abbrev row : List ℕ
  row = taken_row n me costs flat preferences i

  -- Each by its cell.
  cells : (f : ℕ → ℕ) → ((j : ℕ) → j < n → f j ≡ legal_link (taken_cell n costs me (copies_in n flat) preferences i j))
      → tab n f ≡ row
  cells f h =
      tab_ext n f (λ j. legal_link (link (taken_links n me costs (copies_in n flat) preferences) i j))
      (λ j l. h j l ∙ sym (ap legal_link (taken_at n costs me (copies_in n flat) preferences i j here l)))

  -- The unit's own links.
  pub taken_own : i ≡ me → own_links n costs ≡ row
  taken_own e =
      cells (λ j. legal_link (at costs j)) (λ j h.
      zero_down (at costs j) ∙ sym (ap legal_link (if_true _ _ _ (eq-eqb i me e))))
    where
      zero_down : (c : ℕ) → legal_link c ≡ legal_link (if eqb c 0 then far else c)
      zero_down c =
          ⊎_elim
          (λ t. ap legal_link (eqb-true c 0 t) ∙ sym (ap legal_link (if_true _ far c t)))
          (λ t. sym (ap legal_link (if_false _ far c t)))
          (yes_or_no (eqb c 0))

  -- None, of a unit that no neighbour is preferred for.
  pub taken_none : i ≢ me → at preferences i ≡ n → tab n (λ j. far) ≡ row
  taken_none o e =
      cells (λ j. far) (λ j h.
      sym (ap legal_link (if_false _ _ _ (ne_eqb i me o) ∙ if_true _ _ _ (eq-eqb (at preferences i) n e))))

  -- Those in the preferred neighbour's copy.
  pub taken_copied : length flat ≡ flat_length → n ≤ unit_limit → i ≢ me → at preferences i < n
      → tab n (λ j. link_from i (at (row_in flat (at preferences i)) j)) ≡ row
  taken_copied long low o l =
      cells (λ j. link_from i (at (row_in flat (at preferences i)) j)) (λ j h.
      ap (link_from i) (row-at n flat (at preferences i) long low l j h)
      ∙ entry_link i (at (copy_in n flat (at preferences i)) j)
      ∙ sym
      (ap legal_link
      (if_false _ _ _ (ne_eqb i me o)
      ∙ if_false _ _ _ (ne_eqb (at preferences i) n (omega arith))
      ∙ ap (λ (t : List ℕ). copied_link t i j) (copy-of n flat (at preferences i) l))))
