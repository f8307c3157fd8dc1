-- Tables that are fit part by part are fit. So fitness part by part is the rules'.
use Prim.Native.Nat.{ℕ, ◌+◌, ◌*◌, ◌≤◌, ◌<◌}
use native.Mathlib.Nat.{add-zero}
use native.Mathlib.Omega.{arith}
use mathlib.Core.Bool.{true, beq}
use mathlib.Core.List.{List}
use mathlib.Core.Path.{◌≡◌, sym, ap, ap₂, ◌∙◌}
use borrow.Author.Tests.{leb-true, eqb-true, le-leb, eq-eqb}
use lib.ListN.{length}
use lib.Seq.{get_or-drop}
use Rattle.ground.specs.Limits.{unit_limit}
use Rattle.ground.specs.Rows.{at, same}
use Rattle.ground.proofs.Each.{each_at}
use Rattle.ground.proofs.Limits.{count_legal}
use Rattle.ground.proofs.Lists.{parts, Under}
use Rattle.ground.proofs.Rows.{every_at, every_of, eq_same}
use Rattle.ground.proofs.Tests.{both_of, same_tests}
use Rattle.rules.specs.Network.{Network, unit_at, queue, is_up, fit_queue, fit_network}
use Rattle.rules.specs.Tables.{unit_words, part, unit_from, fit_unit_table, queue_bytes, laid_queue, network_words, network_bytes}
use Rattle.rules.specs.Tables.{queue_at, laid_units, laid_queues, network_from, fit_tables}
use Rattle.rules.specs.Unit.{fit_unit}
use Rattle.rules.proofs.Laid.{part_length, unit_lays_back, no_message}
use Rattle.fitness.specs.PartsFit.{fit_table_at, fit_bytes, fit_pair, fit_sender, fit_parts}
use Rattle.fitness.specs.UnitTables.{is_linked}
use Rattle.fitness.proofs.PartsOfFit.{tables_parts}
use Rattle.fitness.proofs.PartsRead.{row_bytes, table_in, queue_in, unit_read, queue_read, table_at, linked}
use Rattle.fitness.proofs.PartsRead.{queue_in_row, row_rest, laid_table, laid_to, laid_from, units_laid, queues_laid}
use Rattle.fitness.proofs.PlacesFit.{QueueFit, queue_back, queue_fit}
use Rattle.fitness.proofs.Tiles.{under_part, tiled}

-- A queue whose messages pass the test is fit.
queue-of : (net : Network) (a b : ℕ) → QueueFit net.count a (is_up net a b) (queue net a b) → fit_queue net a b ≡ true
unfolding fit_queue
queue-of net a b f =
    both_of _ _
    (both_of _ _ (le-leb _ _ f.room) f.quiet)
    (every_of (length (queue net a b)) _ (λ i l. rw (get_or-drop, add-zero) (each_at f.proper i no_message l)))

module _ (words bytes : List ℕ) where
  -- The count that the tables give.
  abbrev n : ℕ
  n = at words 0

  -- The network that is read from them.
  abbrev net : Network
  net = network_from words bytes

  module _ (small : Under 256 bytes) (e : fit_parts words bytes ≡ true) where
    -- The units' tables have their length, by the first test.
    long_words : length words ≡ network_words
    unfolding fit_parts
    long_words = eqb-true (length words) network_words (search parts depth 9)

    -- The queues' bytes have theirs, by the second.
    long_bytes : length bytes ≡ network_bytes
    unfolding fit_parts
    long_bytes = eqb-true (length bytes) network_bytes (search parts depth 9)

    -- The count is at least 2.
    two : 2 ≤ n
    unfolding fit_parts
    two = leb-true 2 n (search parts depth 9)

    -- The count is within the limit.
    limit : n ≤ unit_limit
    unfolding fit_parts
    limit = leb-true n unit_limit (search parts depth 9)

    -- Unit i's table is fit.
    table_fit : (i : ℕ) → i < n → fit_table_at words n i ≡ true
    unfolding fit_parts
    table_fit i l = every_at n (fit_table_at words n) (search parts depth 9) i l

    -- The queues of sender a are fit.
    sender_fit : (a : ℕ) → a < n → fit_sender words bytes n a ≡ true
    unfolding fit_parts
    sender_fit a l = every_at n (fit_sender words bytes n) (search parts depth 9) a l

    -- Units a and b pass their test.
    pair_fit : (a b : ℕ) → a < n → b < n → fit_pair words bytes n a b ≡ true
    unfolding fit_sender
    pair_fit a b l k = every_at n (fit_pair words bytes n a) (search (parts, sender_fit a l)) b k

    -- The units' tables are what the network lays out.
    words_laid : laid_units net ≡ words
    unfolding fit_parts fit_table_at
    words_laid =
        sym (units_laid words bytes)
        ∙ tiled unit_words n network_words (laid_table words bytes) words long_words
        (λ i l. unit_lays_back (table_in words i) (search (parts, table_fit i l)))
        (search parts depth 9)

    module _ (a b : ℕ) (l : a < n) (k : b < n) where
      -- The queue's bytes have their length.
      queue_long : length (queue_in bytes a b) ≡ queue_bytes
      queue_long = part_length bytes (queue_at a b) queue_bytes (omega (arith, long_bytes, limit))

      -- They pass the code's test.
      queue_passes : fit_bytes n a (is_linked words a b) (queue_in bytes a b) ≡ true
      unfolding fit_pair
      queue_passes = search (parts, pair_fit a b l k)

      -- They are what the queue lays out.
      queue_laid : laid_to words bytes a b ≡ queue_in bytes a b
      queue_laid =
          ap laid_queue (queue_read words bytes a b l k)
          ∙ queue_back n a limit (is_linked words a b) (queue_in bytes a b)
          (under_part 256 bytes (queue_at a b) queue_bytes small) queue_long queue_passes

      -- Its messages pass the rules' test.
      queue_tested : QueueFit n a (is_linked words a b) (queue net a b)
      queue_tested =
          rw (queue_read words bytes a b l k)
          (queue_fit n a limit (is_linked words a b) (queue_in bytes a b)
          (under_part 256 bytes (queue_at a b) queue_bytes small) queue_long queue_passes)

    -- The queues of a sender are what they lay out.
    row_laid : (a : ℕ) → a < n → laid_from words bytes a ≡ part bytes (a * row_bytes) row_bytes
    unfolding fit_sender
    row_laid a l =
        tiled queue_bytes n row_bytes (laid_to words bytes a) (part bytes (a * row_bytes) row_bytes)
        (part_length bytes (a * row_bytes) row_bytes (omega (arith, long_bytes, limit)))
        (λ b k. queue_laid a b l k ∙ sym (queue_in_row words bytes a b (omega (arith, limit))))
        (rw (row_rest words bytes a limit) (search (parts, sender_fit a l)))

    -- The queues' bytes are what the network lays out.
    bytes_laid : laid_queues net ≡ bytes
    unfolding fit_parts
    bytes_laid =
        let q : n * row_bytes ≡ queue_at n 0 = omega arith in
        sym (queues_laid words bytes) ∙ tiled row_bytes n network_bytes (laid_from words bytes) bytes long_bytes row_laid (rw q (search parts depth 9))

    -- Each unit has the network's count and its own number, and is fit.
    unit_fit : (i : ℕ) → i < n → ((unit_at net i).count ≡ n) × ((unit_at net i).me ≡ i) × (fit_unit (unit_at net i) ≡ true)
    unfolding fit_table_at fit_unit_table unit_from
    unit_fit i l =
        let count : at words (i * unit_words) ≡ n = eqb-true _ _ (search (parts, table_fit i l)) in
        let own : at words (i * unit_words + 1) ≡ i = eqb-true _ _ (search (parts, table_fit i l)) in
        rw (unit_read words bytes i l) (
          table_at words bytes i 0 (omega arith) ∙ rw add-zero count,
          table_at words bytes i 1 (omega arith) ∙ own,
          search (parts, table_fit i l),
        )

    -- The link of two units is up in the network where the code finds it up.
    pair_up : (a b : ℕ) → a < n → b < n → is_up net a b ≡ is_linked words a b
    pair_up a b l k =
        sym
        (linked words bytes a b l k (record { long = long_words; unit = omega (arith, limit) }) (omega (arith, limit))
        (unit_fit a l).0)

    -- The network is fit.
    network_fits : fit_network net ≡ true
    unfolding network_from fit_network fit_pair
    network_fits =
        both_of _ _
        (both_of _ _ (count_legal n two limit)
        (every_of n _ (λ i l.
        search (both_of, eq-eqb, (unit_fit i l).0, (unit_fit i l).1, (unit_fit i l).2))))
        (every_of n _ (λ a l. every_of n _ (λ b k.
        both_of _ _
        (ap₂ beq (pair_up a b l k) (pair_up b a k l) ∙ search (parts, pair_fit a b l k))
        (queue-of net a b (rw (pair_up a b l k) (queue_tested a b l k))))))

    -- Tables that are fit part by part are fit.
    parts_tables : fit_tables words bytes ≡ true
    unfolding fit_tables
    parts_tables =
        let words_same : same words (laid_units net) ≡ true = eq_same words (laid_units net) (sym words_laid) in
        let bytes_same : same bytes (laid_queues net) ≡ true = eq_same bytes (laid_queues net) (sym bytes_laid) in
        both_of _ _
        (both_of _ _
        (both_of _ _ (both_of _ _ (eq-eqb _ _ long_words) (eq-eqb _ _ long_bytes)) network_fits)
        words_same)
        bytes_same

-- Fitness part by part is the rules'.
pub parts_fit : (words bytes : List ℕ) → Under 256 bytes → fit_parts words bytes ≡ fit_tables words bytes
parts_fit words bytes small =
    same_tests (fit_parts words bytes) (fit_tables words bytes) (parts_tables words bytes small) (tables_parts words bytes)
