-- Demand 3 over the lent tables: "From the fresh network, after any sequence of link events, cost changes and deliveries,
-- refused ones included, stopped at any point: following any choice of successors, no hub is met twice, feasible distances
-- fall at each hop, hops are at most hubs less one."
--
-- `reached_tables words bytes n calls` are the tables that the calls leave, by the contracts, of the fresh ones of n units
-- in any lent `words` and `bytes` of their fixed lengths; the calls are any finite list, and any part of a list is a
-- list. `Follows` is any path along successors for a destination. The tracer's path is one of these. All this is so too
-- of the tables that calls leave of any that hold a network which meets the conditions (`start_tables`).
use Prim.Native.Nat.{ℕ, ◌-◌, ◌≤◌, ◌<◌}
use mathlib.Core.Bool.{true}
use mathlib.Core.List.{List}
use mathlib.Core.Logic.{◌≢◌}
use mathlib.Core.Path.{◌≡◌}
use lib.ListN.{length}
use Rattle.ground.specs.Limits.{legal_count}
use Rattle.ground.specs.Rows.{at}
use Rattle.rules.specs.Network.{Network, Call, unit_at, is_successor_in}
use Rattle.rules.specs.Tables.{network_words, network_bytes}
use Rattle.rules.specs.Tracer.{circling, trace, hops}
use Rattle.loopfree.specs.Reached.{reached, Follows}
use Rattle.lasting.specs.ReachedTables.{Tables, run_tables, reached_tables, network_of, start_tables}
use Rattle.ground.specs.Distinct.{Distinct}
use Rattle.loopfree.proofs.NoCircle as NoCircle
use Rattle.loopfree.proofs.NoCircle.{LoopFree, loop_free}
use Rattle.lasting.proofs.TablesReached.{tables_start, start_tables_hold, tables_hold}

-- From any tables that calls may start from.
pub tables_loop_free : (t : Tables) → start_tables t ≡ true → (calls : List Call) (destination : ℕ)
    → LoopFree (network_of t).count (network_of (run_tables t calls)) destination
tables_loop_free t s calls destination =
    rw (start_tables_hold t s calls) (loop_free (network_of t) (tables_start t s) calls destination)

-- "From the fresh network, after any sequence of link events, cost changes and deliveries, refused ones included, stopped
-- at any point"
module _ (words bytes : List ℕ) (long : length words ≡ network_words) (wide : length bytes ≡ network_bytes) (n : ℕ)
    (legal : legal_count n ≡ true) (calls : List Call) (destination : ℕ) where
  -- The network that the tables hold then.
  abbrev pub network : Network
  network = network_of (reached_tables words bytes n calls)

  -- It is the one that the calls reach.
  same : network ≡ reached n calls
  same = tables_hold words bytes long wide n legal calls

  -- "feasible distances fall at each hop"
  pub feasible_falls : (i k : ℕ) → is_successor_in network i destination k ≡ true
      → at (unit_at network k).feasible destination < at (unit_at network i).feasible destination
  feasible_falls = rw same (NoCircle.feasible_falls n legal calls destination)

  -- "following any choice of successors, no hub is met twice"
  pub never_twice : (path : List ℕ) → Follows network destination path → Distinct path
  never_twice = rw same (λ path f. NoCircle.never_twice n legal calls destination f)

  -- "hops are at most hubs less one"
  pub few_hops : (path : List ℕ) → Follows network destination path → length path - 1 ≤ n - 1
  few_hops = rw same (λ path f. NoCircle.few_hops n legal calls destination f)

  module _ (start : ℕ) (unit : start < n) (choices : List ℕ) where
    -- The path that the tracer answers follows successors.
    pub trace_follows : Follows network destination (trace network start destination choices).path
    trace_follows = rw same (NoCircle.trace_follows n legal calls destination start unit choices)

    -- So it meets no unit twice.
    pub trace_never_twice : Distinct (trace network start destination choices).path
    trace_never_twice = never_twice (trace network start destination choices).path trace_follows

    -- It has at most the count less one hops.
    pub trace_few_hops : hops (trace network start destination choices) ≤ n - 1
    trace_few_hops = few_hops (trace network start destination choices).path trace_follows

    -- And the tracer never answers circling.
    pub trace_never_circles : (trace network start destination choices).ending ≢ circling
    trace_never_circles = rw same (NoCircle.trace_never_circles n legal calls destination start unit choices)
