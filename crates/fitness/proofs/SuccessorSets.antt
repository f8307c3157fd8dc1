-- The successor sets in the units' numbers of fit tables: each stands at its place, and tells of each unit whether it is a
-- successor.
use Prim.Native.Nat.{ℕ, ◌+◌, ◌*◌, ◌≤◌, ◌<◌}
use native.Mathlib.Omega.{arith}
use mathlib.Core.Bool.{true}
use mathlib.Core.List.{List}
use mathlib.Core.Path.{◌≡◌, sym, ap, ◌∙◌}
use borrow.Author.Tests.{eqb-true}
use lib.ListN.{length, drop}
use lib.Seq.{get_or-take, get_or-drop}
use Rattle.ground.specs.Limits.{unit_limit}
use Rattle.ground.specs.Rows.{at, is_in}
use Rattle.ground.proofs.Bits.{in_bits}
use Rattle.ground.proofs.Lists.{parts}
use Rattle.rules.specs.Network.{Network, unit_at, is_successor_in}
use Rattle.rules.specs.Tables.{unit_words, network_words, successors_at, part, network_from, fit_tables}
use Rattle.rules.specs.Unit.{is_successor, successor_set}
use Rattle.rules.proofs.Fit.{fit_tables_of, fit_network_shaped}
use Rattle.rules.proofs.LaidNetwork.{ShapedNetwork, unit_part, network_lays_back}
use Rattle.state.proofs.QuestionAnswers.{set_at_place}

-- What the numbers of fit tables have: their length, and a count from 2 to the limit.
pub record Sized (words : List ℕ) : Type 0 where
  pub long : length words ≡ network_words
  pub low : 2 ≤ at words 0
  pub high : at words 0 ≤ unit_limit

-- Fit tables have it.
pub fit_sized : (words bytes : List ℕ) → fit_tables words bytes ≡ true → Sized words
unfolding fit_tables network_from
fit_sized words bytes e =
    record {
      long = eqb-true (length words) network_words (search parts);
      low = (fit_tables_of words bytes e).low;
      high = (fit_tables_of words bytes e).high;
    }

-- The number in the table for the successors of unit i.
abbrev pub set_at : (words : List ℕ) (destination i : ℕ) → ℕ
set_at words destination i = at words (i * unit_words + (successors_at + destination))

module _ (words bytes : List ℕ) (fit : fit_tables words bytes ≡ true) (destination i : ℕ)
    (aimed : destination < at words 0) (inside : i < at words 0) where
  -- The network of the tables.
  abbrev net : Network
  net = network_from words bytes

  -- It has its rows and units.
  shaped : ShapedNetwork net
  shaped = fit_network_shaped words bytes fit

  -- Unit i is below its count.
  below : i < net.count
  unfolding network_from
  below = inside

  -- Unit i has the table's count.
  pub counted : (unit_at net i).count ≡ at words 0
  unfolding network_from
  counted = shaped.counts i inside

  -- The table has unit i's successor set at its place.
  pub set_in_place : set_at words destination i ≡ successor_set (unit_at net i) destination
  set_in_place =
      let place = successors_at + destination in
      sym
      (get_or-take unit_words (drop (i * unit_words) words) place 0 (omega (arith, (fit_sized words bytes fit).high))
      ∙ get_or-drop (i * unit_words) words place 0)
      ∙ ap (λ (xs : List ℕ). at (part xs (i * unit_words) unit_words) place) (sym (network_lays_back words bytes fit).0)
      ∙ ap (λ (xs : List ℕ). at xs place) (unit_part net shaped i below)
      ∙ set_at_place (unit_at net i) (shaped.unit i below) destination (omega (arith, counted))

  -- So it tells whether unit k is a successor.
  pub successor_in_place : (k : ℕ) → k < at words 0 → is_in (set_at words destination i) k ≡ is_successor_in net i destination k
  unfolding successor_set
  successor_in_place k l =
      rw set_in_place (in_bits (unit_at net i).count (is_successor (unit_at net i) destination) k (omega (arith, counted)))
