-- Order: the lines of `show` from what is asked of a unit. proofs/ShownUnits.antt shows that they are `unit_lines`.
use Rattle.std.specs.Prelude.{ℕ, List, [], ◌++◌, eqb}
use Rattle.std.specs.Prelude.{if◌then◌else◌}
use Rattle.ground.specs.Rows.{at, tab, joined, is_in}
use Rattle.state.specs.declared.questions.Row.{Row}
use Rattle.texts.specs.Printed.{state_line, pair_line}

-- The line of a destination, those below a number, and all of a unit.
unfoldable pub way_to : (row : Row) (i j : ℕ) → List ℕ
way_to row i j =
    if eqb j i then []
    else pair_line row.count i j (at row.distances j) (at row.feasible j) (is_in (at row.successors j))

unfoldable pub ways_to : (row : Row) (i below : ℕ) → List ℕ
ways_to row i below = joined (tab below (way_to row i))

unfoldable pub row_lines : (row : Row) (i : ℕ) → List ℕ
row_lines row i = state_line i row.active ++ ways_to row i row.count
