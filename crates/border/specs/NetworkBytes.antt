-- Rule: a network at the C border: the units' tables as bytes, 4 for each number, high byte first, beside the queues, which are bytes
-- already. Units' tables of another length are unfit.
use Rattle.std.specs.Prelude.{ℕ, ◌*◌, Bool, not, ◌&&◌, List, eqb, length}
use Rattle.std.specs.Prelude.{if◌then◌else◌}
use Rattle.ground.specs.Refusal.{accepted, ◌gives◌, ◌otherwise◌}
use Rattle.rules.specs.Network.{Call, up, cost, down, deliver, fresh, fresh_refusal}
use Rattle.rules.specs.NetworkTable.{network_answer, words_after, bytes_after, path_after}
use Rattle.rules.specs.Tables.{network_words, network_bytes, laid_units, laid_queues, bytes_of, words_of}
use Rattle.paths.specs.Tracing.{trace_answer}
use Rattle.border.specs.declared.networks.NetworkCall.{NetworkCall}
use Rattle.border.specs.declared.networks.NetworkCall.TheVariants.{Up, Cost, Down, Deliver}

abbrev pub units_bytes : ℕ
units_bytes = 4 * network_words

abbrev pub are_units_long : (units : List ℕ) → Bool
are_units_long units = eqb (length units) units_bytes

-- Calls: the answer, and what is left of both tables.
abbrev pub call_told : NetworkCall → Call
call_told (Up a b ca cb) = up a b ca cb
call_told (Cost a b c) = cost a b c
call_told (Down a b) = down a b
call_told (Deliver a b) = deliver a b

unfoldable pub border_call : (units queues : List ℕ) → Call → ℕ
border_call units queues call = if are_units_long units then network_answer (words_of units) queues call else 2

unfoldable pub border_units : (units queues : List ℕ) → Call → List ℕ
border_units units queues call = if are_units_long units then bytes_of (words_after (words_of units) queues call) else units

unfoldable pub border_queues : (units queues : List ℕ) → Call → List ℕ
border_queues units queues call = if are_units_long units then bytes_after (words_of units) queues call else queues

-- The fresh network: "a slice not of its fixed length (all that is tested for the fresh network)".
abbrev pub border_fresh_refusal : (units queues : List ℕ) (n : ℕ) → ℕ
border_fresh_refusal units queues n =
    fresh_refusal n
    otherwise not (are_units_long units && eqb (length queues) network_bytes) gives 2

unfoldable pub fresh_units_bytes : (units queues : List ℕ) (n : ℕ) → List ℕ
fresh_units_bytes units queues n =
    if eqb (border_fresh_refusal units queues n) accepted then bytes_of (laid_units (fresh n)) else units

unfoldable pub fresh_queues_bytes : (units queues : List ℕ) (n : ℕ) → List ℕ
fresh_queues_bytes units queues n =
    if eqb (border_fresh_refusal units queues n) accepted then laid_queues (fresh n) else queues

-- Questions.
abbrev pub asked_of_units : (units : List ℕ) (answer : List ℕ → ℕ) → ℕ
asked_of_units units answer = if are_units_long units then answer (words_of units) else 2

-- The tracer.
abbrev pub border_trace : (units queues : List ℕ) (start destination : ℕ) (choices path : List ℕ) → ℕ
border_trace units queues start destination choices path =
    asked_of_units units (λ words. trace_answer words queues start destination choices path)

unfoldable pub border_path : (units queues : List ℕ) (start destination : ℕ) (choices path : List ℕ) → List ℕ
border_path units queues start destination choices path =
    if are_units_long units then path_after (words_of units) queues start destination choices path else path
