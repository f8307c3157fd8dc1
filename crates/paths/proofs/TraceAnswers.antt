-- The tracer's answers: what is said leaves one answer, what it tells that nothing refuses a trace, the answer and the path
-- from what the loop gave, and that the number of an answer fits.
use Prim.Native.Nat.{ℕ, zero, suc, ◌+◌, ◌-◌, ◌≤◌, ◌<◌}
use native.Mathlib.Omega.{arith}
use mathlib.Core.Bool.{Bool, true, false, not, ◌||◌}
use mathlib.Core.List.{List, [], ◌∷◌}
use mathlib.Core.Logic.{◌≢◌}
use mathlib.Core.Path.{◌≡◌, refl, sym, ap, ◌∙◌}
use borrow.Author.Tests.{eq-eqb, ne_eqb, lt-ltb, le-ltb, ltb-true, ltb-false, not-false}
use lib.Dec.{eqb, ltb}
use lib.ListN.{length, drop}
use Rattle.std.specs.Prelude.{Result, Ok, Err, if◌then◌else◌}
use Rattle.ground.specs.Refusal.{accepted, ◌gives◌, ◌otherwise◌, answer_base}
use Rattle.ground.specs.Refused.{number_of}
use Rattle.ground.specs.declared.refusals.Refusal.{Refusal}
use Rattle.ground.specs.Rows.{at}
use Rattle.ground.specs.Said.{Said, accepted_with, refused_with, said}
use Rattle.ground.proofs.Answers.{number_once, number_some, number_below}
use Rattle.ground.proofs.Cases.{by_equal}
use Rattle.ground.proofs.Refusal.{gives_none, otherwise_none}
use Rattle.ground.proofs.Said.{said_accepted, said_refused}
use Rattle.ground.proofs.Tests.{either_left, either_right, neither, neither_of, if_true, if_false}
use Rattle.rules.specs.Network.{Network, unit_at}
use Rattle.rules.specs.NetworkTable.{trace_table_refusal, path_after}
use Rattle.rules.specs.Tables.{network_from, fit_tables}
use Rattle.rules.specs.Tracer.{Trace, Ending, arrived, stranded, circling, ends_here, goes_on, chosen, trace_from, trace}
use Rattle.rules.specs.Tracer.{hops}
use Rattle.rules.specs.Unit.{successors}
use Rattle.paths.specs.declared.tracer.Traced.{Traced}
use Rattle.paths.specs.declared.tracer.Traced.TheVariants.{Arrived, Stranded, Circling}
use Rattle.paths.specs.Tracing.{ending_values, traced_values, tracing_said, trace_values, Traceable, EndsAs, LaysPath}
use Rattle.paths.specs.Tracing.{ended_number, trace_answer, trace_number, highest_answer}
use Rattle.fitness.proofs.SuccessorSets.{fit_sized}

-- Two answers that say the same are the same: an ending can be found again from its values.
by_values : (values : List ℕ) → Traced
by_values [] = Circling 0
by_values (which ∷ []) = Circling 0
by_values (which ∷ hops ∷ rest) =
    if eqb which 1 then Arrived hops else if eqb which 2 then Stranded hops else Circling hops

found_again : (traced : Traced) → by_values (traced_values traced) ≡ traced
unfolding by_values
found_again (Arrived hops) = refl
found_again (Stranded hops) = refl
found_again (Circling hops) = refl

pub one_tracing : (a b : Result Traced Refusal) → tracing_said a ≡ tracing_said b → a ≡ b
one_tracing (Ok a) (Ok b) e = ap Ok (sym (found_again a) ∙ ap (λ (s : Said). by_values s.values) e ∙ found_again b)
one_tracing (Ok a) (Err b) e = absurd (number_some b (sym (ap (λ (s : Said). s.number) e)))
one_tracing (Err a) (Ok b) e = absurd (number_some a (ap (λ (s : Said). s.number) e))
one_tracing (Err a) (Err b) e = ap Err (number_once a b (ap (λ (s : Said). s.number) e))

-- The number of an ending is that of its values.
numbered : (ending : Ending) (hops : ℕ) → trace_number (Ok (by_values (ending_values ending hops))) ≡ ended_number ending hops
unfolding by_values
numbered arrived hops = refl
numbered stranded hops = refl
numbered circling hops = refl

ended_as : (traced : Traced) (ending : Ending) (hops : ℕ) → traced_values traced ≡ ending_values ending hops
    → trace_number (Ok traced) ≡ ended_number ending hops
ended_as traced ending hops e =
    ap (λ (t : Traced). trace_number (Ok t)) (sym (found_again traced) ∙ ap by_values e) ∙ numbered ending hops

-- The number that is said is the refusal's or that of none.
said_number : (refusal : ℕ) (values : List ℕ) → (said refusal values).number ≡ refusal
said_number refusal values =
    by_equal refusal accepted
    (λ e. ap (λ (s : Said). s.number) (said_accepted refusal values e) ∙ sym e)
    (λ d. ap (λ (s : Said). s.number) (said_refused refusal values d))

-- The path is short at a unit where the trace ends, or else where the rest of it is.
here_short : (a b : Bool) (i m : ℕ) (rest : Trace) → 1 ≤ m → length rest.path ≤ m
    → length (if a then ends_here arrived i else if b then ends_here stranded i else rest).path ≤ m
here_short true b i m rest l r = l
here_short false true i m rest l r = l
here_short false false i m rest l r = r

-- A trace has at most one unit more in its path than hops were left.
path_short : (net : Network) (destination left i : ℕ) (choices : List ℕ)
    → length (trace_from net destination left i choices).path ≤ left + 1
unfolding trace_from
path_short net destination zero i choices =
    here_short (eqb i destination) (eqb (length (successors (unit_at net i) destination)) 0) i 1 (ends_here circling i)
    (omega arith) (omega arith)
path_short net destination (suc left) i choices =
    let next = chosen (successors (unit_at net i) destination) (at choices 0) in
    here_short (eqb i destination) (eqb (length (successors (unit_at net i) destination)) 0) i (suc left + 1)
    (goes_on i (trace_from net destination left next (drop 1 choices)))
    (omega arith) (omega (arith, path_short net destination left next (drop 1 choices)))

-- The number of an answer after few hops is low.
ended_low : (ending : Ending) (hops : ℕ) → hops ≤ answer_base → ended_number ending hops ≤ highest_answer
ended_low arrived hops l = omega arith
ended_low stranded hops l = omega arith
ended_low circling hops l = omega arith

module _ (words bytes : List ℕ) (start destination : ℕ) (choices path : List ℕ) where
  -- The refusal of the trace.
  abbrev refusal : ℕ
  refusal = trace_table_refusal words bytes start destination choices path

  -- The trace itself.
  abbrev whole : Trace
  whole = trace (network_from words bytes) start destination choices

  -- The test of the units, after that of the tables.
  abbrev outside : Bool
  outside = not (ltb start (at words 0)) || not (ltb destination (at words 0))

  -- The test of the room, after that of the units.
  abbrev short : Bool
  short = ltb (length path) (at words 0) || ltb (length choices) (at words 0 - 1)

  module _ (e : fit_tables words bytes ≡ true) where
    -- The units decide where one is none.
    units_decide : outside ≡ true → refusal ≡ 3
    unfolding network_from
    units_decide o = rw (e, o)

    -- A start that is no unit is refused, and a destination that is none.
    pub no_start : at words 0 ≤ start → refusal ≡ 3
    no_start l = units_decide (either_left _ _ (ap not (le-ltb start (at words 0) l)))

    pub no_destination : at words 0 ≤ destination → refusal ≡ 3
    no_destination l =
        units_decide (either_right (not (ltb start (at words 0))) _ (ap not (le-ltb destination (at words 0) l)))

  module _ (e : fit_tables words bytes ≡ true) (l : start < at words 0) (m : destination < at words 0) where
    -- The room decides, once the tables are fit and the units below the count.
    room_decides : refusal ≡ (short gives 7)
    unfolding network_from
    room_decides = rw (e, lt-ltb start (at words 0) l, lt-ltb destination (at words 0) m)

    -- A path with fewer places than units is refused.
    pub path_too_short : length path < at words 0 → refusal ≡ 7
    path_too_short s = room_decides ∙ if_true short 7 0 (either_left _ _ (lt-ltb (length path) (at words 0) s))

    -- Fewer choices than units less one are refused.
    pub choices_too_short : length choices < at words 0 - 1 → refusal ≡ 7
    choices_too_short s =
        room_decides
        ∙ if_true short 7 0
        (either_right (ltb (length path) (at words 0)) _ (lt-ltb (length choices) (at words 0 - 1) s))

    -- With room for both nothing is refused.
    pub none_applies : at words 0 ≤ length path → at words 0 - 1 ≤ length choices → refusal ≡ accepted
    none_applies p c =
        room_decides
        ∙ if_false short 7 0
        (neither_of _ _ (le-ltb (length path) (at words 0) p) (le-ltb (length choices) (at words 0 - 1) c))

  -- The tables are fit where nothing refuses the trace.
  fit_accepted : refusal ≡ accepted → fit_tables words bytes ≡ true
  unfolding network_from
  fit_accepted e =
      not-false (fit_tables words bytes)
      (gives_none (not (fit_tables words bytes)) 1
      (otherwise_none (not (fit_tables words bytes) gives 2) (outside gives 3 otherwise short gives 7) e).0)

  module _ (none : accepted ≡ refusal) where
    -- A trace that nothing refuses can be followed.
    pub traceable : Traceable words start destination (length choices) (length path)
    unfolding network_from
    traceable =
        let count = at words 0 in
        let left =
        otherwise_none (outside gives 3) (short gives 7)
        (otherwise_none (not (fit_tables words bytes) gives 2) (outside gives 3 otherwise short gives 7) (sym none)).1 in
        let units = neither (not (ltb start count)) (not (ltb destination count)) (gives_none outside 2 left.0) in
        let room = neither (ltb (length path) count) (ltb (length choices) (count - 1)) (gives_none short 6 left.1) in
        record {
          bytes = bytes;
          fit = fit_accepted (sym none);
          begun = ltb-true start count (not-false (ltb start count) units.0);
          aimed = ltb-true destination count (not-false (ltb destination count) units.1);
          chosen = omega (arith, ltb-false (length choices) (count - 1) room.1);
          room = ltb-false (length path) count room.0;
        }

    -- Its ending and path are the trace's.
    pub as_traced : (traced : Traced) {after : List ℕ} → EndsAs words start destination choices traced
        → LaysPath words start destination choices path after
        → (tracing_said (Ok traced) ≡ said refusal (trace_values words bytes start destination choices))
        × (after ≡ path_after words bytes start destination choices path)
    unfolding path_after
    as_traced traced h k = (
      ap accepted_with (h bytes (fit_accepted (sym none))) ∙ sym (said_accepted refusal _ (sym none)),
      k bytes (fit_accepted (sym none)) ∙ sym (if_true _ _ _ (eq-eqb refusal accepted (sym none))),
    )

    -- Its number is that of its ending and hops.
    answer_ended : trace_answer words bytes start destination choices path ≡ ended_number whole.ending (hops whole)
    unfolding trace_answer
    answer_ended = if_true _ _ _ (eq-eqb refusal accepted (sym none))

    -- Which is low.
    answer_low : trace_answer words bytes start destination choices path ≤ highest_answer
    unfolding network_from
    answer_low =
        let high = (fit_sized words bytes (fit_accepted (sym none))).high in
        rw answer_ended
        (ended_low whole.ending (hops whole)
        (omega (arith, path_short (network_from words bytes) destination (at words 0 - 1) start choices, high)))

  -- Of a trace that is refused they are the refusal, and the path as it was.
  pub as_refused : (why : Refusal) → number_of why ≡ refusal
      → (refused_with (number_of why) ≡ said refusal (trace_values words bytes start destination choices))
      × (path ≡ path_after words bytes start destination choices path)
  unfolding path_after
  as_refused why told =
      let some : refusal ≢ accepted = λ e. number_some why (told ∙ e) in
      (ap refused_with told ∙ sym (said_refused refusal _ some), sym (if_false _ _ _ (ne_eqb refusal accepted some)))

  -- Nothing refuses the trace where an ending is said.
  said_none : (traced : Traced) → tracing_said (Ok traced) ≡ said refusal (trace_values words bytes start destination choices)
      → accepted ≡ refusal
  said_none traced e = ap (λ (s : Said). s.number) e ∙ said_number refusal _

  -- The number of the answer, from what it says.
  pub numbered_as : (answer : Result Traced Refusal)
      → tracing_said answer ≡ said refusal (trace_values words bytes start destination choices)
      → trace_number answer ≡ trace_answer words bytes start destination choices path
  unfolding trace_values trace_answer
  numbered_as (Ok traced) e =
      let none : accepted ≡ refusal = said_none traced e in
      ended_as traced whole.ending (hops whole) (ap (λ (s : Said). s.values) (e ∙ said_accepted refusal _ (sym none)))
      ∙ sym (answer_ended none)
  numbered_as (Err why) e =
      let told : number_of why ≡ refusal = ap (λ (s : Said). s.number) e ∙ said_number refusal _ in
      told ∙ sym (if_false _ _ _ (ne_eqb refusal accepted (λ none. number_some why (told ∙ none))))

  -- It fits.
  pub number_low : (answer : Result Traced Refusal)
      → tracing_said answer ≡ said refusal (trace_values words bytes start destination choices)
      → trace_number answer ≤ highest_answer
  number_low (Ok traced) e = rw (numbered_as (Ok traced) e) (answer_low (said_none traced e))
  number_low (Err why) e = omega (arith, number_below why)
