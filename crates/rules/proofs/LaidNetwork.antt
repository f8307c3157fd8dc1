-- Networks and the two tables that hold them. A network whose units and queues are all in shape is read back from what it
-- lays out, and fit tables are exactly what the network read from them lays out.
use Prim.Native.Nat.{ℕ, ◌+◌, ◌*◌, ◌≤◌, ◌<◌}
use native.Mathlib.Omega.{arith}
use mathlib.Core.Bool.{true}
use mathlib.Core.List.{List, [], ◌++◌, map, append_assoc}
use mathlib.Core.Path.{◌≡◌, sym, ap, ◌∙◌}
use lib.ListN.{length, get_or, take, drop}
use lib.Seq.{get_or-take, drop-drop}
use Rattle.ground.specs.Limits.{unit_limit}
use Rattle.ground.specs.Rows.{at, tab, joined, filled}
use Rattle.ground.proofs.Filled.{length_filled}
use Rattle.ground.proofs.Lists.{parts, Under, under_filled, under_rows, Blocks}
use Rattle.ground.proofs.Lists.{blocks_tab, length_joined, block, block_first, Wide, map_length, map_block}
use Rattle.ground.proofs.Rows.{length_tab, tab_at, tab_ext, tab_row, same_eq}
use Rattle.rules.specs.Network.{Network, unit_at, queue}
use Rattle.rules.specs.Tables.{network_words, network_bytes, queue_at, laid_units, laid_queues, network_from, fit_tables}
use Rattle.rules.specs.Tables.{queue_bytes, laid_queue, queue_from, unit_words, part, laid_unit, unit_from}
use Rattle.rules.specs.Unit.{fresh_unit}
use Rattle.rules.proofs.Laid.{ShapedUnit, laid_unit_length, unit_reads_back}
use Rattle.rules.proofs.Laid.{ShapedQueue, laid_queue_length, laid_queue_bytes, queue_reads_back}

-- A network of at least one unit and at most the limit: as many units, each with its rows and the network's count; and a
-- queue for each two units.
pub record ShapedNetwork (net : Network) : Type 0 where
  pub low : 1 ≤ net.count
  pub high : net.count ≤ unit_limit
  pub units : length net.units ≡ net.count
  pub counts : (i : ℕ) → i < net.count → (unit_at net i).count ≡ net.count
  pub unit : (i : ℕ) → i < net.count → ShapedUnit (unit_at net i)
  pub queues : length net.queues ≡ net.count
  pub row : (a : ℕ) → a < net.count → length (get_or net.queues a []) ≡ net.count
  pub each : (a b : ℕ) → a < net.count → b < net.count → ShapedQueue net.count (queue net a b)

-- The bytes of the queues of one sender.
abbrev row_bytes : ℕ
row_bytes = unit_limit * queue_bytes

module _ (net : Network) (s : ShapedNetwork net) where
  -- The units' tables are blocks.
  unit_blocks : Wide unit_words laid_unit net.units (fresh_unit 0 0)
  unit_blocks i l = laid_unit_length (unit_at net i) (s.unit i (rw (← s.units) l))

  -- The units' tables together have their fixed length.
  pub laid_units_length : length (laid_units net) ≡ network_words
  unfolding laid_units
  laid_units_length =
      length_filled network_words (joined (map laid_unit net.units))
      (omega (arith, map_length unit_words laid_unit net.units (fresh_unit 0 0) unit_blocks, s.units, s.high))

  -- Unit i's part of the table is what the unit lays out.
  pub unit_part : (i : ℕ) → i < net.count → part (laid_units net) (i * unit_words) unit_words ≡ laid_unit (unit_at net i)
  unfolding laid_units
  unit_part i l = map_block unit_words laid_unit net.units (fresh_unit 0 0) unit_blocks _ i (rw s.units l)

  -- The first number is the count.
  pub first_count : at (laid_units net) 0 ≡ net.count
  unfolding laid_unit
  first_count =
      sym (get_or-take unit_words (laid_units net) 0 0 (omega arith))
      ∙ ap (λ xs. at xs 0) (unit_part 0 s.low)
      ∙ s.counts 0 s.low

  -- The units are read back.
  units_back : tab net.count (λ i. unit_from (part (laid_units net) (i * unit_words) unit_words)) ≡ net.units
  units_back =
      tab_ext net.count (λ i. unit_from (part (laid_units net) (i * unit_words) unit_words)) (unit_at net)
      (λ i l. rw (unit_part i l) (unit_reads_back (unit_at net i) (s.unit i l)))
      ∙ tab_row net.count net.units (fresh_unit 0 0) s.units

  -- What the queue from a to b lays out, and what all queues from a do.
  laid_to : (a b : ℕ) → List ℕ
  laid_to a b = laid_queue (queue net a b)

  laid_from : (a : ℕ) → List ℕ
  laid_from a = filled row_bytes (joined (tab net.count (laid_to a)))

  -- The queues of one sender are blocks.
  queue_blocks : (a : ℕ) → a < net.count → Blocks queue_bytes (tab net.count (laid_to a))
  unfolding laid_to
  queue_blocks a l =
      blocks_tab queue_bytes net.count (laid_to a)
      (λ b k. laid_queue_length net.count s.high (queue net a b) (s.each a b l k))

  -- The rows of queues are blocks.
  row_blocks_from : Blocks row_bytes (tab net.count laid_from)
  unfolding laid_from
  row_blocks_from =
      blocks_tab row_bytes net.count laid_from
      (λ a l. length_filled row_bytes (joined (tab net.count (laid_to a)))
      (omega (
        arith,
        length_joined queue_bytes (tab net.count (laid_to a)) (queue_blocks a l),
        length_tab net.count (laid_to a),
        s.high,
      )))

  -- The queues' bytes together have their fixed length.
  pub laid_queues_length : length (laid_queues net) ≡ network_bytes
  unfolding laid_queues laid_from laid_to
  laid_queues_length =
      length_filled network_bytes (joined (tab net.count laid_from))
      (omega
      (arith, length_joined row_bytes (tab net.count laid_from) row_blocks_from, length_tab net.count laid_from, s.high))

  -- Each of them is a byte.
  pub laid_queues_bytes : Under 256 (laid_queues net)
  unfolding laid_queues laid_from laid_to
  laid_queues_bytes =
      under_filled 256 network_bytes (joined (tab net.count laid_from)) (omega arith)
      (under_rows 256 net.count laid_from (omega arith) (λ a l.
      under_filled 256 row_bytes (joined (tab net.count (laid_to a))) (omega arith)
      (under_rows 256 net.count (laid_to a) (omega arith) (λ b k.
      laid_queue_bytes net.count s.high (queue net a b) (s.each a b l k)))))

  -- Place b of row a is what the queue from a to b lays out.
  queue_back : (rest : List ℕ) (a b : ℕ) → a < net.count → b < net.count
      → take queue_bytes (drop (b * queue_bytes) (drop (a * row_bytes) (joined (tab net.count laid_from) ++ rest)))
      ≡ laid_to a b
  unfolding laid_from
  queue_back rest a b l k =
      let row : a < length (tab net.count laid_from) = rw length_tab l in
      let place : b < length (tab net.count (laid_to a)) = rw length_tab k in
      rw (
        block_first row_bytes (tab net.count laid_from) rest row_blocks_from a row,
        tab_at net.count laid_from a [] l,
        append_assoc,
      )
      (block queue_bytes (tab net.count (laid_to a)) _ (queue_blocks a l) b place
      ∙ tab_at net.count (laid_to a) b [] k)

  -- So is its part of the bytes.
  pub queue_part : (a b : ℕ) → a < net.count → b < net.count
      → part (laid_queues net) (queue_at a b) queue_bytes ≡ laid_queue (queue net a b)
  unfolding laid_queues laid_from laid_to
  queue_part a b l k =
      let e : queue_at a b ≡ a * row_bytes + b * queue_bytes = omega arith in
      rw (e, ← drop-drop) (queue_back _ a b l k)

  -- The queues of one sender are read back.
  row_reads_back : (a : ℕ) → a < net.count
      → tab net.count (λ b. queue_from (part (laid_queues net) (queue_at a b) queue_bytes)) ≡ get_or net.queues a []
  row_reads_back a l =
      tab_ext net.count (λ b. queue_from (part (laid_queues net) (queue_at a b) queue_bytes)) (queue net a)
      (λ b k. rw (queue_part a b l k) (queue_reads_back net.count s.high (queue net a b) (s.each a b l k)))
      ∙ tab_row net.count (get_or net.queues a []) [] (s.row a l)

  -- The queues are read back.
  queues_back : tab net.count (λ a. tab net.count (λ b. queue_from (part (laid_queues net) (queue_at a b) queue_bytes)))
      ≡ net.queues
  queues_back =
      tab_ext net.count
      (λ a. tab net.count (λ b. queue_from (part (laid_queues net) (queue_at a b) queue_bytes)))
      (λ a. get_or net.queues a [])
      row_reads_back
      ∙ tab_row net.count net.queues [] s.queues

  -- A network is read back from its tables.
  pub network_reads_back : network_from (laid_units net) (laid_queues net) ≡ net
  unfolding network_from
  network_reads_back =
      rw first_count (λ i. record { count = net.count; units = units_back i; queues = queues_back i })

-- Fit tables are what their network lays out.
pub network_lays_back : (words bytes : List ℕ) → fit_tables words bytes ≡ true
    → (laid_units (network_from words bytes) ≡ words) × (laid_queues (network_from words bytes) ≡ bytes)
unfolding fit_tables
network_lays_back words bytes e = (
  sym (same_eq words (laid_units (network_from words bytes)) (search parts)),
  sym (same_eq bytes (laid_queues (network_from words bytes)) (search parts)),
)
