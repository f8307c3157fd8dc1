-- Order: copies in one flat row, unitLimit numbers for each unit, of which the first n count. proofs/CopiedRows.antt shows that
-- it reads like the rules' copies.
use Rattle.std.specs.Prelude.{ℕ, ◌*◌, Bool, ◌&&◌, List, [], eqb, ltb, leb, length, take, drop}
use Rattle.std.proofs.Math.Seq.{paste}
use Rattle.std.specs.Prelude.{if◌then◌else◌}
use Rattle.ground.specs.Limits.{unit_limit}
use Rattle.ground.specs.Rows.{tab, zeros, filled, counted}
use Rattle.tree.specs.Recompute.{through_neighbours}
use Rattle.tree.specs.Tree.{distance}

abbrev pub flat_length : ℕ
flat_length = unit_limit * unit_limit

-- The copy of unit k's tree.
abbrev pub copy_in : (n : ℕ) (flat : List ℕ) (k : ℕ) → List ℕ
copy_in n flat k = take n (drop (k * unit_limit) flat)

abbrev pub copies_in : (n : ℕ) (flat : List ℕ) → List (List ℕ)
copies_in n flat = tab n (copy_in n flat)

-- What is asked of copies that are worked with: a count up to the limit, and a row for each unit.
abbrev pub is_whole : (n : ℕ) (flat : List ℕ) → Bool
is_whole n flat = leb n unit_limit && eqb (length flat) flat_length

-- The whole row of unit k, zeros for a number that has none; and the copies with another row for it.
abbrev pub row_in : (flat : List ℕ) (k : ℕ) → List ℕ
row_in flat k = if ltb k unit_limit && eqb (length flat) flat_length then copy_in unit_limit flat k else zeros unit_limit

abbrev pub with_row : (flat : List ℕ) (k : ℕ) (row : List ℕ) → List ℕ
with_row flat k row = if ltb k unit_limit then paste flat (k * unit_limit) row unit_limit else flat

-- The distances of n units in a row that holds a tree rooted at one.
abbrev pub distances_in : (n root : ℕ) (row : List ℕ) → List ℕ
distances_in n root row = filled unit_limit (counted n (tab n (distance n root (take n row))))

-- The distances through neighbours, a row for each.
abbrev pub through_in : (n : ℕ) (costs flat : List ℕ) → List (List ℕ)
through_in n costs flat = if is_whole n flat then through_neighbours n costs (copies_in n flat) else []
