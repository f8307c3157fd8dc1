-- Rule: what the tracer answers over tables: how the path ended or a refusal, and as a number.
-- Order: `units_in`, `highest_answer`, `Traceable`, `EndsAs`, `LaysPath`: how the loop finds it (proofs/Sets.antt,
-- proofs/TraceAnswers.antt).
use Rattle.std.specs.Prelude.{ℕ, ◌+◌, ◌*◌, ◌≤◌, ◌<◌, true, List, [], ◌∷◌, ◌≡◌, eqb, Result, Ok, Err}
use Rattle.std.specs.Prelude.{if◌then◌else◌}
use Rattle.ground.specs.Refusal.{accepted, answer_base}
use Rattle.ground.specs.Refused.{number_of}
use Rattle.ground.specs.declared.refusals.Refusal.{Refusal}
use Rattle.ground.specs.Rows.{at, rising, is_in}
use Rattle.ground.specs.Said.{Said, accepted_with, refused_with}
use Rattle.rules.specs.NetworkTable.{trace_table_refusal}
use Rattle.rules.specs.Tables.{network_from, fit_tables}
use Rattle.rules.specs.Tracer.{Trace, Ending, arrived, stranded, circling, trace, hops, path_laid}
use Rattle.paths.specs.declared.tracer.Traced.{Traced}
use Rattle.paths.specs.declared.tracer.Traced.TheVariants.{Arrived, Stranded, Circling}

-- The units in a set, rising.
abbrev pub units_in : (n set : ℕ) → List ℕ
units_in n set = rising n (is_in set)

-- "answers which, with the hops": which ending, by the place at which document 01 names it, and the hops.
abbrev pub ending_number : Ending → ℕ
ending_number arrived = 1
ending_number stranded = 2
ending_number circling = 3

abbrev pub ending_values : Ending → (hops : ℕ) → List ℕ
ending_values ending hops = ending_number ending ∷ hops ∷ []

-- Document 01's number and values for each case of the tracer's answer.
abbrev pub traced_values : Traced → List ℕ
traced_values (Arrived hops) = ending_values arrived hops
traced_values (Stranded hops) = ending_values stranded hops
traced_values (Circling hops) = ending_values circling hops

abbrev pub tracing_said : Result Traced Refusal → Said
tracing_said (Ok traced) = accepted_with (traced_values traced)
tracing_said (Err refusal) = refused_with (number_of refusal)

-- The values of a trace; and of the one over tables.
abbrev pub values_of : Trace → List ℕ
values_of t = ending_values t.ending (hops t)

unfoldable pub trace_values : (words bytes : List ℕ) (start destination : ℕ) (choices : List ℕ) → List ℕ
trace_values words bytes start destination choices = values_of (trace (network_from words bytes) start destination choices)

-- What a path is followed over: tables that are fit with some queues, two units of theirs, and room.
pub record Traceable (words : List ℕ) (start destination choices places : ℕ) : Type 0 where
  pub bytes : List ℕ
  pub fit : fit_tables words bytes ≡ true
  pub begun : start < at words 0
  pub aimed : destination < at words 0
  pub chosen : at words 0 ≤ choices + 1
  pub room : at words 0 ≤ places

-- The ending, and the path buffer afterwards, that the trace over such tables gives, whatever their queues.
abbrev pub EndsAs : (words : List ℕ) (start destination : ℕ) (choices : List ℕ) → Traced → Type 0
EndsAs words start destination choices traced =
    (bytes : List ℕ) → fit_tables words bytes ≡ true → traced_values traced ≡ trace_values words bytes start destination choices

abbrev pub LaysPath : (words : List ℕ) (start destination : ℕ) (choices path after : List ℕ) → Type 0
LaysPath words start destination choices path after =
    (bytes : List ℕ) → fit_tables words bytes ≡ true
    → after ≡ path_laid (trace (network_from words bytes) start destination choices) path

-- For C, one number stands for an answer: a refusal's own, below 100; 100 and the hops for arrived, 200 and the hops for
-- stranded, 300 and the hops for circling; so each is below 400.
abbrev pub highest_answer : ℕ
highest_answer = 4 * answer_base

abbrev pub ended_number : Ending → (hops : ℕ) → ℕ
ended_number arrived hops = answer_base + hops
ended_number stranded hops = 2 * answer_base + hops
ended_number circling hops = 3 * answer_base + hops

abbrev pub trace_number : Result Traced Refusal → ℕ
trace_number (Ok (Arrived hops)) = ended_number arrived hops
trace_number (Ok (Stranded hops)) = ended_number stranded hops
trace_number (Ok (Circling hops)) = ended_number circling hops
trace_number (Err refusal) = number_of refusal

-- That of the trace over tables: the refusal's, or that of its ending and hops.
unfoldable pub trace_answer : (words bytes : List ℕ) (start destination : ℕ) (choices path : List ℕ) → ℕ
trace_answer words bytes start destination choices path =
    let refusal = trace_table_refusal words bytes start destination choices path in
    let traced = trace (network_from words bytes) start destination choices in
    if eqb refusal accepted then ended_number traced.ending (hops traced) else refusal
