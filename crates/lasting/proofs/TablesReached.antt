-- The tables that calls reach are fit and hold the network that the calls reach: from fresh tables, and from any that
-- calls may start from.
use Prim.Native.Nat.{ℕ}
use mathlib.Core.Bool.{true}
use mathlib.Core.List.{List, [], ◌∷◌}
use mathlib.Core.Path.{◌≡◌, refl, sym, ap, subst, ◌∙◌}
use borrow.Author.Tests.{eq-eqb}
use lib.Dec.{eqb}
use lib.ListN.{length}
use Rattle.ground.specs.Limits.{legal_count}
use Rattle.ground.specs.Refusal.{accepted}
use Rattle.rules.specs.Network.{Network, Call, fresh, call_refusal, step_to, step, fit_network}
use Rattle.rules.specs.NetworkTable.{network_refusal, words_after, bytes_after, fresh_words, fresh_bytes}
use Rattle.rules.specs.Tables.{network_words, network_bytes, laid_units, laid_queues, fit_tables}
use Rattle.loopfree.specs.Conditions.{meets_conditions, has_places, is_start}
use Rattle.loopfree.specs.Reached.{run, reached}
use Rattle.lasting.specs.ReachedTables.{Tables, after, run_tables, fresh_tables, reached_tables, network_of, start_tables}
use Rattle.ground.proofs.Rows.{eq_same}
use Rattle.ground.proofs.Tests.{both, both_of}
use Rattle.rules.proofs.Fit.{fit_network_shaped}
use Rattle.rules.proofs.LaidNetwork.{ShapedNetwork, laid_units_length, laid_queues_length, network_reads_back}
use Rattle.rules.proofs.LaidNetwork.{network_lays_back}
use Rattle.loopfree.proofs.ShapedStart.{shaped_places}
use Rattle.ground.proofs.Cases.{by_test}
use Rattle.lasting.proofs.ReachedFit.{Kept, start_kept, fresh_kept, step_kept, run_kept}

-- The tables that hold a network.
abbrev pub laid_tables : Network → Tables
laid_tables net = record { words = laid_units net; bytes = laid_queues net }

module _ (net : Network) (s : ShapedNetwork net) where
  -- A fit and shaped network's tables are fit.
  pub laid_fit : fit_network net ≡ true → fit_tables (laid_units net) (laid_queues net) ≡ true
  unfolding fit_tables
  laid_fit fit =
      rw (
        eq-eqb (length (laid_units net)) network_words (laid_units_length net s),
        eq-eqb (length (laid_queues net)) network_bytes (laid_queues_length net s),
        network_reads_back net s,
        fit,
        eq_same (laid_units net) (laid_units net) refl,
        eq_same (laid_queues net) (laid_queues net) refl,
      )

  -- A call over them is refused as it is on the network.
  pub laid_refusal : fit_network net ≡ true → (call : Call)
      → network_refusal (laid_units net) (laid_queues net) call ≡ call_refusal net call
  unfolding network_refusal
  laid_refusal fit call = rw (laid_fit fit, network_reads_back net s)

  -- It leaves the tables that hold the network after the step.
  laid-after : fit_network net ≡ true → (call : Call) → after (laid_tables net) call ≡ laid_tables (step net call)
  unfolding words_after bytes_after step step_to
  laid-after fit call =
      by_test (eqb (call_refusal net call) accepted)
      (λ t. rw (laid_refusal fit call, t, network_reads_back net s))
      (λ t. rw (laid_refusal fit call, t))

-- Calls over the tables of a network leave the tables that hold the network after the calls.
laid_run : (net : Network) → Kept net → (calls : List Call) → run_tables (laid_tables net) calls ≡ laid_tables (run net calls)
unfolding run_tables run
laid_run net kept [] = refl
laid_run net kept (call ∷ rest) =
    ap (λ (t : Tables). run_tables t rest) (laid-after net kept.shaped kept.fit call)
    ∙ laid_run (step net call) (step_kept net kept call) rest

-- The tables that calls reach from those of a network that is kept.
module _ (net : Network) (kept : Kept net) (calls : List Call) where
  -- The network that the calls reach is kept.
  then_kept : Kept (run net calls)
  then_kept = run_kept net kept calls

  -- The tables are fit.
  run_fit : fit_tables (run_tables (laid_tables net) calls).words (run_tables (laid_tables net) calls).bytes ≡ true
  run_fit = rw (laid_run net kept calls) (laid_fit (run net calls) then_kept.shaped then_kept.fit)

  -- The network read from them is the one that the calls reach.
  run_holds : network_of (run_tables (laid_tables net) calls) ≡ run net calls
  run_holds = rw (laid_run net kept calls) (network_reads_back (run net calls) then_kept.shaped)

  -- A call over them is refused as it is on that network.
  run_refusal : (call : Call)
      → network_refusal (run_tables (laid_tables net) calls).words (run_tables (laid_tables net) calls).bytes call
      ≡ call_refusal (run net calls) call
  run_refusal call =
      rw (laid_run net kept calls) (laid_refusal (run net calls) then_kept.shaped then_kept.fit call)

-- From tables that calls may start from.
module _ (t : Tables) (s : start_tables t ≡ true) where
  -- They are fit.
  fit_start : fit_tables t.words t.bytes ≡ true
  fit_start = (both (fit_tables t.words t.bytes) (meets_conditions (network_of t)) s).0

  -- Their network is a start.
  pub tables_start : is_start (network_of t) ≡ true
  unfolding is_start
  tables_start =
      both_of (has_places (network_of t)) (meets_conditions (network_of t))
      (shaped_places (network_of t) (fit_network_shaped t.words t.bytes fit_start))
      (both (fit_tables t.words t.bytes) (meets_conditions (network_of t)) s).1

  -- They are what that network lays out.
  start_laid : laid_tables (network_of t) ≡ t
  start_laid =
      let back = network_lays_back t.words t.bytes fit_start in
      λ i. record { words = back.0 i; bytes = back.1 i }

  module _ (calls : List Call) where
    -- The tables that calls reach are fit.
    pub start_tables_fit : fit_tables (run_tables t calls).words (run_tables t calls).bytes ≡ true
    start_tables_fit =
        subst (λ (x : Tables). fit_tables (run_tables x calls).words (run_tables x calls).bytes ≡ true) start_laid
        (run_fit (network_of t) (start_kept (network_of t) tables_start) calls)

    -- The network read from them is the one that the calls reach.
    pub start_tables_hold : network_of (run_tables t calls) ≡ run (network_of t) calls
    start_tables_hold =
        ap (λ (x : Tables). network_of (run_tables x calls)) (sym start_laid)
        ∙ run_holds (network_of t) (start_kept (network_of t) tables_start) calls

    -- A call over them is refused as it is on that network.
    pub start_tables_refusal : (call : Call)
        → network_refusal (run_tables t calls).words (run_tables t calls).bytes call
        ≡ call_refusal (run (network_of t) calls) call
    start_tables_refusal call =
        ap (λ (x : Tables). network_refusal (run_tables x calls).words (run_tables x calls).bytes call) (sym start_laid)
        ∙ run_refusal (network_of t) (start_kept (network_of t) tables_start) calls call

-- From fresh tables.
module _ (words bytes : List ℕ) (long : length words ≡ network_words) (wide : length bytes ≡ network_bytes) (n : ℕ)
    (legal : legal_count n ≡ true) where
  -- The fresh tables hold the fresh network.
  fresh_laid : fresh_tables words bytes n ≡ laid_tables (fresh n)
  unfolding fresh_words fresh_bytes
  fresh_laid = rw (legal, eq-eqb (length words) network_words long, eq-eqb (length bytes) network_bytes wide)

  module _ (calls : List Call) where
    -- The tables that calls reach hold the network that the calls reach.
    pub tables_reached : reached_tables words bytes n calls ≡ laid_tables (reached n calls)
    tables_reached = ap (λ (t : Tables). run_tables t calls) fresh_laid ∙ laid_run (fresh n) (fresh_kept n legal) calls

    -- They are fit.
    pub tables_fit : fit_tables (reached_tables words bytes n calls).words (reached_tables words bytes n calls).bytes ≡ true
    tables_fit = rw fresh_laid (run_fit (fresh n) (fresh_kept n legal) calls)

    -- The network read from them is the one that the calls reach.
    pub tables_hold : network_of (reached_tables words bytes n calls) ≡ reached n calls
    tables_hold = rw fresh_laid (run_holds (fresh n) (fresh_kept n legal) calls)

    -- A call over them is refused as it is on that network.
    pub tables_refusal : (call : Call)
        → network_refusal (reached_tables words bytes n calls).words (reached_tables words bytes n calls).bytes call
        ≡ call_refusal (reached n calls) call
    tables_refusal call = rw fresh_laid (run_refusal (fresh n) (fresh_kept n legal) calls call)
