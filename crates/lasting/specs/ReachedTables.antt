-- Rule: the lent tables that demand 3 speaks of: the fresh network of any legal count, or any fit tables whose network meets
-- the conditions, then any finite sequence of link up, link down, cost change and delivery calls with any arguments, refused
-- ones included, each leaving the tables that its contract gives.
use Rattle.std.specs.Prelude.{ℕ, Bool, ◌&&◌, List, [], ◌∷◌}
use Rattle.rules.specs.Network.{Network, Call}
use Rattle.rules.specs.NetworkTable.{words_after, bytes_after, fresh_words, fresh_bytes}
use Rattle.rules.specs.Tables.{network_from, fit_tables}
use Rattle.loopfree.specs.Conditions.{meets_conditions}

-- A network's two tables: numbers for its units, bytes for its queues.
pub record Tables : Type 0 where
  pub words : List ℕ
  pub bytes : List ℕ

-- The tables that a call leaves by its contract, with any arguments; a refused one leaves them as they are.
abbrev pub after : Tables → Call → Tables
after t call = record { words = words_after t.words t.bytes call; bytes = bytes_after t.words t.bytes call }

-- "after any sequence of link events, cost changes and deliveries, refused ones included"
unfoldable pub run_tables : Tables → List Call → Tables
run_tables t [] = t
run_tables t (call ∷ rest) = run_tables (after t call) rest

-- "From the fresh network", of any count, laid into any tables that are lent.
abbrev pub fresh_tables : (words bytes : List ℕ) (n : ℕ) → Tables
fresh_tables words bytes n = record { words = fresh_words words bytes n; bytes = fresh_bytes words bytes n }

-- The tables that calls reach from fresh ones.
abbrev pub reached_tables : (words bytes : List ℕ) (n : ℕ) (calls : List Call) → Tables
reached_tables words bytes n calls = run_tables (fresh_tables words bytes n) calls

-- The network that tables hold.
abbrev pub network_of : Tables → Network
network_of t = network_from t.words t.bytes

-- Tables that calls may start from: fit ones, whose network meets the conditions.
abbrev pub start_tables : Tables → Bool
start_tables t = fit_tables t.words t.bytes && meets_conditions (network_of t)
