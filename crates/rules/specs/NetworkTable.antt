-- Rule: the network's calls and questions over its tables: numbers for the units, bytes for the queues. A refusal, below 100,
-- changes nothing; an accepted call answers 100, a question 100 plus the value, and the largest number for unreachable.
use Rattle.std.specs.Prelude.{ℕ, not, ◌&&◌, List, eqb, ltb, length}
use Rattle.std.specs.Prelude.{if◌then◌else◌}
use Rattle.ground.specs.Refusal.{accepted, ◌gives◌, ◌otherwise◌}
use Rattle.ground.specs.Rows.{at}
use Rattle.rules.specs.Hub.{hub_answer, reachable}
use Rattle.rules.specs.Network.{Call, unit_at, fresh, fresh_refusal, outcome, call_refusal}
use Rattle.rules.specs.Tables.{network_words, network_bytes, laid_units, laid_queues, network_from, fit_tables}
use Rattle.rules.specs.Tracer.{trace, path_laid, trace_refusal}
use Rattle.rules.specs.Unit.{is_active, own_distance, successor_set}

-- 2 first, then the others.
unfoldable pub network_refusal : (words bytes : List ℕ) → Call → ℕ
network_refusal words bytes call =
    not (fit_tables words bytes) gives 2 otherwise call_refusal (network_from words bytes) call

abbrev pub network_answer : (words bytes : List ℕ) → Call → ℕ
network_answer words bytes call = hub_answer (network_refusal words bytes call) 0

unfoldable pub words_after : (words bytes : List ℕ) → Call → List ℕ
words_after words bytes call =
    if eqb (network_refusal words bytes call) accepted then laid_units (outcome (network_from words bytes) call) else words

unfoldable pub bytes_after : (words bytes : List ℕ) → Call → List ℕ
bytes_after words bytes call =
    if eqb (network_refusal words bytes call) accepted then laid_queues (outcome (network_from words bytes) call) else bytes

-- The fresh network: "a slice not of its fixed length (all that is tested for the fresh network)".
abbrev pub fresh_network_refusal : (words bytes : List ℕ) (n : ℕ) → ℕ
fresh_network_refusal words bytes n =
    fresh_refusal n
    otherwise not (eqb (length words) network_words && eqb (length bytes) network_bytes) gives 2

unfoldable pub fresh_words : (words bytes : List ℕ) (n : ℕ) → List ℕ
fresh_words words bytes n =
    if eqb (fresh_network_refusal words bytes n) accepted then laid_units (fresh n) else words

unfoldable pub fresh_bytes : (words bytes : List ℕ) (n : ℕ) → List ℕ
fresh_bytes words bytes n =
    if eqb (fresh_network_refusal words bytes n) accepted then laid_queues (fresh n) else bytes

-- Questions: the state of unit i, its distance, feasible distance and successors for destination j, and its link to j: the
-- cost, 0 where it is down, and whether an acknowledgment is awaited. "A distance from a unit to itself is legal".
abbrev pub unit_refusal : (words bytes : List ℕ) (i : ℕ) → ℕ
unit_refusal words bytes i =
    not (fit_tables words bytes) gives 2 otherwise not (ltb i (network_from words bytes).count) gives 3

abbrev pub pair_refusal : (words bytes : List ℕ) (i j : ℕ) → ℕ
pair_refusal words bytes i j =
    not (fit_tables words bytes) gives 2
    otherwise not (ltb i (network_from words bytes).count && ltb j (network_from words bytes).count) gives 3

unfoldable pub state_answer : (words bytes : List ℕ) (i : ℕ) → ℕ
state_answer words bytes i =
    hub_answer (unit_refusal words bytes i) (if is_active (unit_at (network_from words bytes) i) then 1 else 0)

unfoldable pub distance_between : (words bytes : List ℕ) (i j : ℕ) → ℕ
distance_between words bytes i j =
    if eqb (pair_refusal words bytes i j) accepted then reachable (own_distance (unit_at (network_from words bytes) i) j)
    else pair_refusal words bytes i j

unfoldable pub feasible_between : (words bytes : List ℕ) (i j : ℕ) → ℕ
feasible_between words bytes i j =
    if eqb (pair_refusal words bytes i j) accepted then reachable (at (unit_at (network_from words bytes) i).feasible j)
    else pair_refusal words bytes i j

unfoldable pub successors_between : (words bytes : List ℕ) (i j : ℕ) → ℕ
successors_between words bytes i j =
    hub_answer (pair_refusal words bytes i j) (successor_set (unit_at (network_from words bytes) i) j)

unfoldable pub link_between : (words bytes : List ℕ) (i j : ℕ) → ℕ
link_between words bytes i j = hub_answer (pair_refusal words bytes i j) (at (unit_at (network_from words bytes) i).costs j)

unfoldable pub awaits_between : (words bytes : List ℕ) (i j : ℕ) → ℕ
awaits_between words bytes i j = hub_answer (pair_refusal words bytes i j) (at (unit_at (network_from words bytes) i).awaited j)

-- The tracer: 2, 3, 7, else a trace, whose path is laid into the buffer.
abbrev pub trace_table_refusal : (words bytes : List ℕ) (start destination : ℕ) (choices path : List ℕ) → ℕ
trace_table_refusal words bytes start destination choices path =
    not (fit_tables words bytes) gives 2
    otherwise trace_refusal (network_from words bytes) start destination (length choices) (length path)

unfoldable pub path_after : (words bytes : List ℕ) (start destination : ℕ) (choices path : List ℕ) → List ℕ
path_after words bytes start destination choices path =
    if eqb (trace_table_refusal words bytes start destination choices path) accepted
    then path_laid (trace (network_from words bytes) start destination choices) path
    else path
