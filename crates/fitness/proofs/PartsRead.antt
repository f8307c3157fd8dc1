-- What is read from the parts of a network's tables, and what the network that is read lays out.
use Prim.Native.Nat.{ℕ, ◌+◌, ◌-◌, ◌*◌, ◌≤◌, ◌<◌}
use native.Mathlib.Omega.{arith}
use mathlib.Core.Bool.{not}
use mathlib.Core.List.{List, []}
use mathlib.Core.Path.{◌≡◌, refl, sym, ap, ap₂, ◌∙◌}
use lib.Dec.{eqb}
use lib.ListN.{get_or, drop}
use lib.Seq.{get_or-take, get_or-drop}
use Rattle.ground.specs.Limits.{unit_limit}
use Rattle.ground.specs.Rows.{at, tab, joined, filled}
use Rattle.ground.proofs.Lists.{map_tab}
use Rattle.ground.proofs.Rows.{tab_at}
use Rattle.rules.specs.Network.{Network, unit_at, queue, is_up}
use Rattle.rules.specs.Tables.{unit_words, part, costs_at, laid_unit, unit_from, queue_bytes, laid_queue, queue_from}
use Rattle.rules.specs.Tables.{network_words, network_bytes, queue_at, laid_units, laid_queues, network_from}
use Rattle.rules.specs.Unit.{Unit, fresh_unit}
use Rattle.fitness.specs.UnitTables.{is_linked}
use Rattle.fitness.proofs.TableThere.{There, linked_is}
use Rattle.fitness.proofs.Tiles.{part_rest, part_part}

-- The bytes of the queues of one sender.
abbrev pub row_bytes : ℕ
row_bytes = unit_limit * queue_bytes

-- Unit i's table among those of all.
abbrev pub table_in : (words : List ℕ) (i : ℕ) → List ℕ
table_in words i = part words (i * unit_words) unit_words

-- The bytes of the queue from a to b among those of all.
abbrev pub queue_in : (bytes : List ℕ) (a b : ℕ) → List ℕ
queue_in bytes a b = part bytes (queue_at a b) queue_bytes

module _ (words bytes : List ℕ) where
  -- The count that the tables give.
  abbrev n : ℕ
  n = at words 0

  -- The network that is read from them.
  abbrev net : Network
  net = network_from words bytes

  -- Unit i is read from its table.
  pub unit_read : (i : ℕ) → i < n → unit_at net i ≡ unit_from (table_in words i)
  unfolding network_from
  unit_read i l = tab_at n (λ j. unit_from (table_in words j)) i (fresh_unit 0 0) l

  -- The queue from a to b is read from its bytes.
  pub queue_read : (a b : ℕ) → a < n → b < n → queue net a b ≡ queue_from (queue_in bytes a b)
  unfolding network_from
  queue_read a b l k =
      ap (λ (row : List (List _)). get_or row b []) (tab_at n (λ x. tab n (λ y. queue_from (queue_in bytes x y))) a [] l)
      ∙ tab_at n (λ y. queue_from (queue_in bytes a y)) b [] k

  -- Number j of unit i's table.
  pub table_at : (i j : ℕ) → j < unit_words → at (table_in words i) j ≡ at words (i * unit_words + j)
  table_at i j l = get_or-take unit_words (drop (i * unit_words) words) j 0 l ∙ get_or-drop (i * unit_words) words j 0

  -- The code finds a link up where the rules do.
  pub linked : (a b : ℕ) → a < n → b < n → There words a → b < unit_limit → (unit_at net a).count ≡ n
      → is_linked words a b ≡ is_up net a b
  unfolding unit_from
  linked a b l k there low count =
      let table = table_in words a in
      let same : at table 0 ≡ n = sym (ap (λ (u : Unit). u.count) (unit_read a l)) ∙ count in
      linked_is words a there b low
      ∙ sym
      (ap (λ (u : Unit). not (eqb (at u.costs b) 0)) (unit_read a l)
      ∙ ap (λ (c : ℕ). not (eqb c 0))
      (get_or-take (at table 0) (drop costs_at table) b 0 (omega arith)
      ∙ get_or-drop costs_at table b 0
      ∙ table_at a (costs_at + b) (omega arith)))

  -- The queue from a to b among the queues of its sender.
  pub queue_in_row : (a b : ℕ) → b < unit_limit
      → part (part bytes (a * row_bytes) row_bytes) (b * queue_bytes) queue_bytes ≡ queue_in bytes a b
  queue_in_row a b l =
      let e : a * row_bytes + b * queue_bytes ≡ queue_at a b = omega arith in
      part_part bytes (a * row_bytes) row_bytes (b * queue_bytes) queue_bytes (omega arith)
      ∙ ap (λ (k : ℕ). part bytes k queue_bytes) e

  -- What is left of them after n queues.
  pub row_rest : (a : ℕ) → n ≤ unit_limit
      → drop (n * queue_bytes) (part bytes (a * row_bytes) row_bytes) ≡ part bytes (queue_at a n) ((unit_limit - n) * queue_bytes)
  row_rest a high =
      let e : a * row_bytes + n * queue_bytes ≡ queue_at a n = omega arith in
      let r : row_bytes - n * queue_bytes ≡ (unit_limit - n) * queue_bytes = omega arith in
      part_rest bytes (a * row_bytes) row_bytes (n * queue_bytes) ∙ ap₂ (part bytes) e r

  -- What the unit whose table is at place i lays out.
  abbrev pub laid_table : ℕ → List ℕ
  laid_table i = laid_unit (unit_from (table_in words i))

  -- What the queue from a to b lays out.
  abbrev pub laid_to : (a b : ℕ) → List ℕ
  laid_to a b = laid_queue (queue net a b)

  -- What all queues from a lay out.
  abbrev pub laid_from : (a : ℕ) → List ℕ
  laid_from a = filled row_bytes (joined (tab n (laid_to a)))

  -- The units' tables that the network lays out.
  pub units_laid : filled network_words (joined (tab n laid_table)) ≡ laid_units net
  unfolding laid_units network_from
  units_laid =
      ap (λ (ts : List (List ℕ)). filled network_words (joined ts))
      (sym (map_tab laid_unit n (λ i. unit_from (table_in words i))))

  -- The queues that it lays out.
  pub queues_laid : filled network_bytes (joined (tab n laid_from)) ≡ laid_queues net
  unfolding laid_queues network_from
  queues_laid = refl
