-- Rule: what `show` prints of a network's units.
use Rattle.std.specs.Prelude.{ℕ, List, [], ◌++◌, eqb}
use Rattle.std.specs.Prelude.{if◌then◌else◌}
use Rattle.ground.specs.Rows.{at, tab, joined}
use Rattle.rules.specs.Network.{Network, unit_at}
use Rattle.rules.specs.Tables.{network_from, fit_tables}
use Rattle.rules.specs.Unit.{Unit, is_active, own_distance, is_successor}
use Rattle.texts.specs.Printed.{refused_line, state_line, pair_line}

-- The lines of destinations below a number, and all lines of a unit.
unfoldable pub pair_lines : (i : ℕ) (u : Unit) (below : ℕ) → List ℕ
pair_lines i u below =
    joined (tab below (λ j.
    if eqb j i then [] else pair_line u.count i j (own_distance u j) (at u.feasible j) (is_successor u j)))

unfoldable pub unit_lines : (i : ℕ) (u : Unit) → List ℕ
unit_lines i u = state_line i (is_active u) ++ pair_lines i u u.count

unfoldable pub shown : Network → List ℕ
shown net = joined (tab net.count (λ i. unit_lines i (unit_at net i)))

-- Tables that are not fit are refused with 2.
unfoldable pub show_text : (words bytes : List ℕ) → List ℕ
show_text words bytes = if fit_tables words bytes then shown (network_from words bytes) else refused_line 2
