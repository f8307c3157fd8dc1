-- The meter over the lent tables: "Bytes entered equal bytes delivered, dropped and held after any sequence, each figure defined
-- from the accepted calls. A frame moved only while the tables stay as they are meets no unit twice."
--
-- `tables` are what any finite list of network calls and meter calls mixed, with any arguments, refused ones included, leaves by
-- the contracts of a fresh network of n units and a fresh meter in any lent `words`, `bytes` and `meter` of their fixed lengths;
-- any part of a list is a list. `accepted` are the calls of the meter among them that were accepted, each with what its answer
-- says of its frame, and the four sums are taken of these alone. `units_met` are the units that the frame at a place meets. All
-- this but the sums is so too of the tables that calls leave of any that they may start from.
use Prim.Native.Nat.{ℕ, ◌+◌, ◌-◌, ◌≤◌}
use mathlib.Core.Bool.{true}
use mathlib.Core.List.{List}
use mathlib.Core.Path.{◌≡◌, subst}
use lib.ListN.{length}
use Rattle.ground.specs.Distinct.{Distinct}
use Rattle.ground.specs.Limits.{legal_count}
use Rattle.rules.specs.Tables.{network_words, network_bytes}
use Rattle.frames.specs.Account.{Accepted, bytes_entered, bytes_delivered, bytes_dropped, bytes_held}
use Rattle.frames.specs.Meter.{Meter, is_held, frame_at, held_bytes, fresh_meter}
use Rattle.frames.specs.MeterTable.{meter_words, fit_metered}
use Rattle.frames.proofs.Metered.{Leads, delivered_is, dropped_is, held_is, entered_is}
use Rattle.frames.proofs.Metered as Metered
use Rattle.lasting.specs.MeteredTables.{MeteredTables, meter_of, MixedCall, run_mixed, accepted_of, fresh_metered, Stays}
use Rattle.lasting.specs.MeteredTables.{units_met}
use Rattle.lasting.specs.ReachedTables.{network_of, start_tables}
use Rattle.lasting.proofs.MixedRuns.{Started, started_fit, start_started, run_started, run_leads, met_distinct, met_few}
use Rattle.lasting.proofs.MixedRuns.{fresh-meter, fresh_started}

-- From any tables that calls may start from: a network's that meets the conditions, and a meter's that is fit over it.
module _ (start : MeteredTables) (s : start_tables start.network ≡ true)
    (fit : fit_metered start.network.words start.network.bytes start.meter ≡ true) (calls : List MixedCall) where
  -- The tables that the calls leave.
  abbrev pub tables_from : MeteredTables
  tables_from = run_mixed start calls

  -- Mixed calls may start from these again.
  started_from : Started (network_of start.network).count tables_from
  started_from = run_started (network_of start.network).count start (start_started start s fit) calls

  -- "Bytes entered equal bytes delivered, dropped and held"
  pub start_adds_up : (meter_of tables_from).entered
      ≡ (meter_of tables_from).delivered + (meter_of tables_from).dropped + held_bytes (meter_of tables_from)
  start_adds_up = started_from.fit.sum

  -- No call over them is refused with 2.
  pub start_always_fit : fit_metered tables_from.network.words tables_from.network.bytes tables_from.meter ≡ true
  start_always_fit = started_fit (network_of start.network).count tables_from started_from

  -- "A frame moved only while the tables stay as they are"
  module _ (later : List MixedCall) (stays : Stays tables_from.network later) (place : ℕ)
      (is_held_lem : is_held (frame_at (meter_of tables_from) place) ≡ true) where
    -- "meets no unit twice"
    pub start_never_twice : Distinct (units_met tables_from place later)
    start_never_twice = met_distinct (network_of start.network).count tables_from started_from later stays place is_held_lem

    -- So it makes at most as many hops as there are other units.
    pub start_few_hops : length (units_met tables_from place later) - 1 ≤ (network_of start.network).count - 1
    start_few_hops = met_few (network_of start.network).count tables_from started_from later stays place is_held_lem

-- "after any sequence" "from a fresh network and a fresh meter"
module _ (words bytes meter : List ℕ) (long : length words ≡ network_words) (wide : length bytes ≡ network_bytes)
    (room : length meter ≡ meter_words) (n : ℕ) (legal : legal_count n ≡ true) (calls : List MixedCall) where
  -- The tables that the calls leave, and the calls of the meter that were accepted.
  abbrev pub tables : MeteredTables
  tables = run_mixed (fresh_metered words bytes meter n) calls

  abbrev pub accepted : List Accepted
  accepted = accepted_of (fresh_metered words bytes meter n) calls

  -- The tables are such that mixed calls may start from them.
  started : Started n tables
  started = run_started n (fresh_metered words bytes meter n) (fresh_started words bytes meter long wide room n legal) calls

  -- The accepted calls lead from the fresh meter to the one that the tables hold.
  leads : Leads n (meter_of tables) fresh_meter accepted
  leads =
      subst (λ (start : Meter). Leads n (meter_of tables) start accepted) (fresh-meter meter room)
      (run_leads n (fresh_metered words bytes meter n) (fresh_started words bytes meter long wide room n legal) calls)

  -- "each figure defined from the accepted calls"
  pub entered : (meter_of tables).entered ≡ bytes_entered accepted
  entered = entered_is n (meter_of tables) accepted leads

  pub delivered : (meter_of tables).delivered ≡ bytes_delivered accepted
  delivered = delivered_is n (meter_of tables) accepted leads

  pub dropped : (meter_of tables).dropped ≡ bytes_dropped accepted
  dropped = dropped_is n (meter_of tables) accepted leads

  pub held : held_bytes (meter_of tables) ≡ bytes_held accepted
  held = held_is n (meter_of tables) accepted leads

  -- "Bytes entered equal bytes delivered, dropped and held"
  pub adds_up : (meter_of tables).entered ≡ (meter_of tables).delivered + (meter_of tables).dropped + held_bytes (meter_of tables)
  adds_up = Metered.adds_up n (meter_of tables) accepted leads

  -- No call over them is refused with 2: the tables that calls reach are fit.
  pub always_fit : fit_metered tables.network.words tables.network.bytes tables.meter ≡ true
  always_fit = started_fit n tables started

  -- "A frame moved only while the tables stay as they are"
  module _ (later : List MixedCall) (stays : Stays tables.network later) (place : ℕ)
      (is_held_lem : is_held (frame_at (meter_of tables) place) ≡ true) where
    -- "meets no unit twice"
    pub never_twice : Distinct (units_met tables place later)
    never_twice = met_distinct n tables started later stays place is_held_lem

    -- So it makes at most as many hops as there are other units.
    pub few_hops : length (units_met tables place later) - 1 ≤ n - 1
    few_hops = met_few n tables started later stays place is_held_lem
