-- Unit i's table among the tables of a network that are fit: its unit is the network's unit i, so what it answers to a
-- question is what the network does.
use Prim.Native.Nat.{ℕ, ◌+◌, ◌<◌}
use mathlib.Core.Bool.{Bool, true, false, not, ◌&&◌}
use mathlib.Core.List.{List}
use mathlib.Core.Logic.{◌≢◌}
use mathlib.Core.Path.{◌≡◌, refl, sym, ap, ◌∙◌}
use borrow.Author.Tests.{ltb-true, not-false, lt-ltb}
use lib.Dec.{eqb, ltb}
use Rattle.std.specs.Prelude.{Result, Ok, Err, if◌then◌else◌}
use Rattle.ground.specs.Refusal.{accepted, ◌gives◌, ◌otherwise◌, answer_base}
use Rattle.ground.specs.Refused.{number_of, refused_as}
use Rattle.ground.specs.declared.refusals.Refusal.{Refusal}
use Rattle.ground.specs.declared.refusals.Refusal.TheVariants.{Unfit, NoUnit}
use Rattle.ground.specs.Rows.{at}
use Rattle.rules.specs.Hub.{reachable, active_answer, question_refusal, distance_answer, feasible_answer, successors_answer, link_answer, awaits_answer}
use Rattle.rules.specs.Network.{unit_at}
use Rattle.rules.specs.NetworkTable.{unit_refusal, pair_refusal, state_answer, distance_between, feasible_between}
use Rattle.rules.specs.NetworkTable.{successors_between, link_between, awaits_between}
use Rattle.rules.specs.Tables.{unit_from, network_from, fit_unit_table, fit_tables}
use Rattle.rules.specs.Unit.{Unit, is_active, own_distance, successor_set}
use Rattle.state.specs.Asked.{row_of, row_answer, asked_of}
use Rattle.state.specs.declared.questions.Question.{Question}
use Rattle.state.specs.declared.questions.Question.TheVariants.{Distance, Feasible, Successors, Link, Awaits}
use Rattle.ground.proofs.Answers.{number_once, number_some}
use Rattle.ground.proofs.Refusal.{gives_none, otherwise_none}
use Rattle.ground.proofs.Tests.{both}
use Rattle.rules.proofs.Fit.{fit_tables_of}
use Rattle.state.proofs.QuestionAnswers.{refused}
use Rattle.fitness.proofs.FitTables.{unit_is, table_fits}
use Rattle.fitness.proofs.PartsRead.{table_in}
use Rattle.asking.specs.Asking.{row_at, asked_between}

module _ (words bytes : List ℕ) (e : fit_tables words bytes ≡ true) (i : ℕ) (l : i < at words 0) where
  -- A value of its unit that no refusal holds back is the value of the network's unit i.
  same_value : (f : Unit → ℕ) {asked refusal : ℕ} → asked ≡ accepted → refusal ≡ accepted
      → (if eqb asked accepted then f (unit_from (table_in words i)) else asked)
      ≡ (if eqb refusal accepted then f (unit_at (network_from words bytes) i) else refusal)
  same_value f p q = rw (p, q) (ap f (unit_is words bytes e i l))

-- What it tells that neither 2 nor 3 is given.
none_given : (fit test : Bool) → (not fit gives 2 otherwise not test gives 3) ≡ accepted → (fit ≡ true) × (test ≡ true)
none_given fit test e =
    let none = otherwise_none (not fit gives 2) (not test gives 3) e in
    (not-false fit (gives_none (not fit) 1 none.0), not-false test (gives_none (not test) 2 none.1))

-- 2 or 3 of a first test is given with a second test too.
first_given : (fit test more : Bool) → (not fit gives 2 otherwise not test gives 3) ≢ accepted
    → (not fit gives 2 otherwise not test gives 3) ≡ (not fit gives 2 otherwise not (test && more) gives 3)
first_given false test more d = refl
first_given true false more d = refl
first_given true true more d = absurd (d refl)

-- The refusal of an answer that is given by two tests.
first_of_two : {Value : Type 0} (fit test : Bool) (value : Value)
    → refused_as (if not fit then Err Unfit else if not test then Err NoUnit else Ok value)
    ≡ (not fit gives 2 otherwise not test gives 3)
first_of_two false test value = refl
first_of_two true false value = refl
first_of_two true true value = refl

-- A refusal is an answer that has its number.
same_refused : {Value : Type 0} (why : Refusal) (answer : Result Value Refusal) → number_of why ≡ refused_as answer → Err why ≡ answer
same_refused why (Ok value) e = absurd (number_some why e)
same_refused why (Err refusal) e = ap Err (number_once why refusal e)

module _ (words bytes : List ℕ) (i : ℕ) where
  -- A question about unit i that is not refused: the tables are fit, and i is a unit.
  pub unit_asked : unit_refusal words bytes i ≡ accepted → (fit_tables words bytes ≡ true) × (i < at words 0)
  unfolding network_from
  unit_asked e =
      let known = none_given (fit_tables words bytes) (ltb i (at words 0)) e in
      (known.0, ltb-true i (at words 0) known.1)

  -- The unit's answer about its state is the network's.
  pub state_asked : unit_refusal words bytes i ≡ accepted → active_answer (table_in words i) ≡ state_answer words bytes i
  unfolding active_answer state_answer
  state_asked e =
      let known = unit_asked e in
      let fits : (not (fit_unit_table (table_in words i)) gives 2) ≡ accepted =
      rw (table_fits words bytes known.0 i known.1) in
      same_value words bytes known.0 i known.1 (λ u. answer_base + (if is_active u then 1 else 0)) fits e

  -- All answers of the unit at once are the network's.
  pub row_asked : unit_refusal words bytes i ≡ accepted → row_answer (table_in words i) ≡ row_at words bytes i
  unfolding row_answer row_at network_from
  row_asked e =
      let known = unit_asked e in
      rw (table_fits words bytes known.0 i known.1, known.0, lt-ltb i (at words 0) known.1)
      (ap (λ (u : Unit). Ok (row_of u)) (unit_is words bytes known.0 i known.1))

  -- They are refused as a question about the unit is.
  pub row_refusal : refused_as (row_at words bytes i) ≡ unit_refusal words bytes i
  unfolding row_at
  row_refusal = first_of_two (fit_tables words bytes) (ltb i (network_from words bytes).count) _

  -- So a refusal is the same.
  pub row_refused : (why : Refusal) → number_of why ≡ unit_refusal words bytes i → Err why ≡ row_at words bytes i
  row_refused why e = same_refused why (row_at words bytes i) (e ∙ sym row_refusal)

  module _ (j : ℕ) where
    -- What refuses a question about unit i refuses one about i and j.
    pub pair_refused : unit_refusal words bytes i ≢ accepted → unit_refusal words bytes i ≡ pair_refusal words bytes i j
    unfolding network_from
    pair_refused d = first_given (fit_tables words bytes) (ltb i (at words 0)) (ltb j (at words 0)) d

    -- A question about i and j that is not refused: both are units besides.
    pub pair_asked : pair_refusal words bytes i j ≡ accepted
        → (fit_tables words bytes ≡ true) × (i < at words 0) × (j < at words 0)
    unfolding network_from
    pair_asked e =
        let known = none_given (fit_tables words bytes) (ltb i (at words 0) && ltb j (at words 0)) e in
        let tests = both (ltb i (at words 0)) (ltb j (at words 0)) known.1 in
        (known.0, ltb-true i (at words 0) tests.0, ltb-true j (at words 0) tests.1)

    module _ (e : pair_refusal words bytes i j ≡ accepted) where
      -- The unit does not refuse it either.
      not_refused : question_refusal (table_in words i) j ≡ accepted
      unfolding network_from
      not_refused =
          let known = pair_asked e in
          let count : (unit_from (table_in words i)).count ≡ at words 0 =
          ap (λ (u : Unit). u.count) (unit_is words bytes known.0 i known.1)
          ∙ (fit_tables_of words bytes known.0).counts i known.1 in
          rw (table_fits words bytes known.0 i known.1, count, lt-ltb j (at words 0) known.2)

      -- A unit's value for j is the network's.
      asked_value : (f : Unit → ℕ)
          → (if eqb (question_refusal (table_in words i) j) accepted then f (unit_from (table_in words i))
          else question_refusal (table_in words i) j)
          ≡ (if eqb (pair_refusal words bytes i j) accepted then f (unit_at (network_from words bytes) i)
          else pair_refusal words bytes i j)
      asked_value f = same_value words bytes (pair_asked e).0 i (pair_asked e).1 f not_refused e

      -- So its answer to a question is.
      pub pair_answers : (q : Question) → asked_of q (table_in words i) j ≡ asked_between q words bytes i j
      unfolding distance_answer distance_between feasible_answer feasible_between successors_answer successors_between link_answer link_between awaits_answer awaits_between
      pair_answers Distance = asked_value (λ u. reachable (own_distance u j))
      pair_answers Feasible = asked_value (λ u. reachable (at u.feasible j))
      pair_answers Successors = asked_value (λ u. answer_base + successor_set u j)
      pair_answers Link = asked_value (λ u. answer_base + at u.costs j)
      pair_answers Awaits = asked_value (λ u. answer_base + at u.awaited j)

    -- What refuses it is the network's answer.
    pub pair_refuses : (q : Question) (why : Refusal) → number_of why ≡ pair_refusal words bytes i j
        → number_of why ≡ asked_between q words bytes i j
    unfolding distance_between feasible_between successors_between link_between awaits_between
    pair_refuses Distance why e = refused _ why e
    pair_refuses Feasible why e = refused _ why e
    pair_refuses Successors why e = refused _ why e
    pair_refuses Link why e = refused _ why e
    pair_refuses Awaits why e = refused _ why e
