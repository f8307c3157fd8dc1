-- Rule: one unit at the C border: "At that border a table is bytes, 4 for each number, high byte first." A table of another length
-- is unfit.
use Rattle.std.specs.Prelude.{ℕ, ◌*◌, Bool, List, eqb, length}
use Rattle.std.specs.Prelude.{if◌then◌else◌}
use Rattle.rules.specs.Hub.{HubCall, hub_answer, hub_fresh_refusal, table_answer, table_after, buffer_after, fresh_table, active_answer, distance_answer, feasible_answer, successors_answer, link_answer, awaits_answer}
use Rattle.rules.specs.Tables.{unit_words, bytes_of, words_of}

abbrev pub table_bytes : ℕ
table_bytes = 4 * unit_words

abbrev pub is_table_long : (table : List ℕ) → Bool
is_table_long table = eqb (length table) table_bytes

-- Calls: the answer, the table and the buffer.
unfoldable pub border_answer : (table : List ℕ) (room : ℕ) → HubCall → ℕ
border_answer table room call = if is_table_long table then table_answer (words_of table) room call else 2

unfoldable pub border_table : (table : List ℕ) (room : ℕ) → HubCall → List ℕ
border_table table room call = if is_table_long table then bytes_of (table_after (words_of table) room call) else table

unfoldable pub border_buffer : (table buffer : List ℕ) → HubCall → List ℕ
border_buffer table buffer call = if is_table_long table then buffer_after (words_of table) buffer call else buffer

-- The fresh unit.
unfoldable pub border_fresh_answer : (table : List ℕ) (n me : ℕ) → ℕ
border_fresh_answer table n me = hub_answer (hub_fresh_refusal n me (is_table_long table)) 0

unfoldable pub border_fresh_table : (table : List ℕ) (n me : ℕ) → List ℕ
border_fresh_table table n me = if is_table_long table then bytes_of (fresh_table (words_of table) n me) else table

-- Questions.
abbrev pub asked : (table : List ℕ) (answer : List ℕ → ℕ) → ℕ
asked table answer = if is_table_long table then answer (words_of table) else 2

abbrev pub border_state : (table : List ℕ) → ℕ
border_state table = asked table active_answer

abbrev pub border_distance : (table : List ℕ) (to : ℕ) → ℕ
border_distance table to = asked table (λ words. distance_answer words to)

abbrev pub border_feasible : (table : List ℕ) (to : ℕ) → ℕ
border_feasible table to = asked table (λ words. feasible_answer words to)

abbrev pub border_successors : (table : List ℕ) (to : ℕ) → ℕ
border_successors table to = asked table (λ words. successors_answer words to)

abbrev pub border_link : (table : List ℕ) (to : ℕ) → ℕ
border_link table to = asked table (λ words. link_answer words to)

abbrev pub border_awaits : (table : List ℕ) (to : ℕ) → ℕ
border_awaits table to = asked table (λ words. awaits_answer words to)
