-- Order: one unit's table among those of all: taken out, put back, and whether one of its links is up; for any numbers.
-- proofs/TableThere.antt and proofs/FitTables.antt lead from the tables of a network to these.
use Rattle.std.specs.Prelude.{ℕ, ◌*◌, ◌+◌, Bool, not, ◌&&◌, List, eqb, ltb, length}
use Rattle.std.proofs.Math.Seq.{paste}
use Rattle.std.specs.Prelude.{if◌then◌else◌}
use Rattle.ground.specs.Limits.{unit_limit}
use Rattle.ground.specs.Rows.{at, zeros}
use Rattle.rules.specs.Tables.{unit_words, network_words, part, costs_at}

-- Whether numbers are those of all tables, and one of these is unit i's.
unfoldable pub has_table : (words : List ℕ) (i : ℕ) → Bool
has_table words i = eqb (length words) network_words && ltb i unit_limit

-- Unit i's table, zeros where there is none; and the tables with another for unit i, as they were where there is none.
unfoldable pub table_of : (words : List ℕ) (i : ℕ) → List ℕ
table_of words i = if has_table words i then part words (i * unit_words) unit_words else zeros unit_words

unfoldable pub with_table : (words : List ℕ) (i : ℕ) (table : List ℕ) → List ℕ
with_table words i table = if has_table words i then paste words (i * unit_words) table unit_words else words

-- Whether unit a's table has the link to b up.
unfoldable pub is_linked : (words : List ℕ) (a b : ℕ) → Bool
is_linked words a b =
    has_table words a && (ltb b unit_limit && not (eqb (at words (a * unit_words + (costs_at + b))) 0))
