-- Fit tables are fit part by part.
use Prim.Native.Nat.{ℕ, ◌+◌, ◌-◌, ◌*◌, ◌≤◌, ◌<◌}
use native.Mathlib.Nat.{add-zero}
use native.Mathlib.Omega.{arith}
use mathlib.Core.Bool.{Bool, true, false, beq}
use mathlib.Core.List.{List}
use mathlib.Core.Path.{◌≡◌, refl, sym, ap, ◌∙◌}
use borrow.Author.Tests.{eq-eqb}
use lib.ListN.{length, drop}
use Rattle.ground.specs.Limits.{unit_limit, legal_count}
use Rattle.ground.specs.Rows.{at, tab, every, joined, filled}
use Rattle.ground.proofs.Filled.{length_filled}
use Rattle.ground.proofs.Limits.{count_legal}
use Rattle.ground.proofs.Lists.{parts, blocks_tab, length_joined}
use Rattle.ground.proofs.Rows.{length_tab, every_of}
use Rattle.ground.proofs.Tests.{both_of}
use Rattle.rules.specs.Network.{Network, queue, is_up, fit_queue}
use Rattle.rules.specs.Tables.{unit_words, part, unit_from, queue_bytes, network_words, network_bytes, queue_at, network_from}
use Rattle.rules.specs.Tables.{fit_tables}
use Rattle.rules.proofs.Fit.{FitNetwork, fit_tables_of, fit_network_shaped}
use Rattle.rules.proofs.Laid.{part_length, unit_lays_back, laid_queue_length}
use Rattle.rules.proofs.LaidNetwork.{ShapedNetwork, queue_part, network_lays_back}
use Rattle.rules.proofs.QueuedMessages.{queue_proper}
use Rattle.slices.specs.Slices.{is_nothing}
use Rattle.fitness.specs.PartsFit.{fit_table_at, fit_bytes, fit_pair, fit_sender, fit_parts}
use Rattle.fitness.specs.UnitTables.{is_linked}
use Rattle.fitness.proofs.FitTables.{fit_length, bytes_length, table_there, table_fits}
use Rattle.fitness.proofs.PartsRead.{row_bytes, table_in, queue_in, unit_read, table_at, linked, row_rest, laid_table}
use Rattle.fitness.proofs.PartsRead.{laid_to, laid_from, units_laid, queues_laid}
use Rattle.fitness.proofs.PlacesFit.{QueueFit, bytes_fit}
use Rattle.fitness.proofs.TableThere.{table_within}
use Rattle.fitness.proofs.Tiles.{tile, after_tiles}

-- Tests that are the same are found to be.
beq_of : (a b : Bool) → a ≡ b → beq a b ≡ true
beq_of true true e = refl
beq_of true false e = sym e
beq_of false true e = e
beq_of false false e = refl

module _ (words bytes : List ℕ) where
  -- The count that the tables give.
  abbrev n : ℕ
  n = at words 0

  -- The network that is read from them.
  abbrev net : Network
  net = network_from words bytes

  module _ (e : fit_tables words bytes ≡ true) where
    -- The network is fit.
    fit : FitNetwork net
    fit = fit_tables_of words bytes e

    -- It is shaped.
    shaped : ShapedNetwork net
    shaped = fit_network_shaped words bytes e

    -- Its count is at least 2.
    low : 2 ≤ n
    unfolding network_from
    low = fit.low

    -- Its count is within the limit.
    high : n ≤ unit_limit
    unfolding network_from
    high = fit.high

    -- The units' tables are what it lays out.
    words_back : filled network_words (joined (tab n (laid_table words bytes))) ≡ words
    words_back = units_laid words bytes ∙ (network_lays_back words bytes e).0

    -- The queues' bytes are what it lays out.
    bytes_back : filled network_bytes (joined (tab n (laid_from words bytes))) ≡ bytes
    bytes_back = queues_laid words bytes ∙ (network_lays_back words bytes e).1

    -- Unit i's table is what its unit lays out.
    table_back : (i : ℕ) → i < n → laid_table words bytes i ≡ table_in words i
    table_back i l = unit_lays_back (table_in words i) (table_fits words bytes e i l)

    -- What its unit lays out has its length.
    table_wide : (i : ℕ) → i < n → length (laid_table words bytes i) ≡ unit_words
    table_wide i l =
        ap length (table_back i l) ∙ part_length words (i * unit_words) unit_words (table_within words i (table_there words bytes e i l))

    -- Unit i's table is fit, has the network's count, and its own number is its place.
    table_passes : (i : ℕ) → i < n → fit_table_at words n i ≡ true
    unfolding fit_table_at unit_from network_from
    table_passes i l =
        let count : at words (i * unit_words) ≡ n =
        rw (unit_read words bytes i l, table_at words bytes i 0 (omega arith), add-zero) at (fit.counts i l) in
        let own : at words (i * unit_words + 1) ≡ i = rw (unit_read words bytes i l, table_at words bytes i 1 (omega arith)) at (fit.own i l) in
        search (both_of, eq-eqb, count, own, table_fits words bytes e i l)

    -- There is nothing after the tables of the units.
    words_rest : is_nothing (drop (n * unit_words) words) ≡ true
    words_rest =
        rw words_back at (after_tiles unit_words n network_words (laid_table words bytes) table_wide)

    -- The code finds the link of two units up where the rules do.
    pair_linked : (a b : ℕ) → a < n → b < n → is_linked words a b ≡ is_up net a b
    unfolding network_from
    pair_linked a b l k =
        linked words bytes a b l k (table_there words bytes e a l) (omega (arith, high)) (fit.counts a l)

    -- It finds it alike at both ends.
    pair_alike : (a b : ℕ) → a < n → b < n → is_linked words a b ≡ is_linked words b a
    unfolding network_from
    pair_alike a b l k = pair_linked a b l k ∙ fit.alike a b l k ∙ sym (pair_linked b a k l)

    module _ (a b : ℕ) (l : a < n) (k : b < n) where
      -- The messages of the queue from a to b pass the rules' test.
      messages_fit : QueueFit n a (is_linked words a b) (queue net a b)
      unfolding network_from fit_queue
      messages_fit =
          let queued : fit_queue net a b ≡ true = fit.queued a b l k in
          record {
            room = (shaped.each a b l k).room;
            proper = queue_proper net a b queued;
            quiet = rw (pair_linked a b l k) (search parts);
          }

      -- Its bytes pass the code's.
      queue_fits : fit_bytes n a (is_linked words a b) (queue_in bytes a b) ≡ true
      unfolding network_from
      queue_fits =
          ap (λ (bs : List ℕ). fit_bytes n a (is_linked words a b) (queue_in bs a b))
          (sym (network_lays_back words bytes e).1)
          ∙ ap (fit_bytes n a (is_linked words a b)) (queue_part net shaped a b l k)
          ∙ bytes_fit n a high (is_linked words a b) (queue net a b) messages_fit

      -- What it lays out has its length.
      queue_wide : length (laid_to words bytes a b) ≡ queue_bytes
      unfolding network_from
      queue_wide = laid_queue_length n high (queue net a b) (shaped.each a b l k)

    -- What the queues of one sender lay out has its length.
    row_wide : (a : ℕ) → a < n → length (laid_from words bytes a) ≡ row_bytes
    row_wide a l =
        length_filled row_bytes (joined (tab n (laid_to words bytes a)))
        (omega (
          arith,
          length_joined queue_bytes (tab n (laid_to words bytes a)) (blocks_tab queue_bytes n (laid_to words bytes a) (λ b k. queue_wide a b l k)),
          length_tab n (laid_to words bytes a),
          high,
        ))

    -- The queues of a sender are fit.
    sender_fits : (a : ℕ) → a < n → fit_sender words bytes n a ≡ true
    unfolding fit_sender fit_pair
    sender_fits a l =
        let pairs : every n (fit_pair words bytes n a) ≡ true =
        every_of n (fit_pair words bytes n a) (λ b k.
        both_of _ _ (beq_of (is_linked words a b) (is_linked words b a) (pair_alike a b l k)) (queue_fits a b l k)) in
        let row : part bytes (a * row_bytes) row_bytes ≡ laid_from words bytes a =
        rw bytes_back at (tile row_bytes n network_bytes (laid_from words bytes) row_wide a l) in
        let rest : is_nothing (part bytes (queue_at a n) ((unit_limit - n) * queue_bytes)) ≡ true =
        rw (← row, row_rest words bytes a high) at (after_tiles queue_bytes n row_bytes (laid_to words bytes a) (λ b k. queue_wide a b l k)) in
        both_of _ _ pairs rest

    -- There is nothing after the queues of the senders.
    bytes_rest : is_nothing (drop (queue_at n 0) bytes) ≡ true
    bytes_rest =
        let q : n * row_bytes ≡ queue_at n 0 = omega arith in
        rw (bytes_back, q) at (after_tiles row_bytes n network_bytes (laid_from words bytes) row_wide)

    -- Fit tables are fit part by part.
    pub tables_parts : fit_parts words bytes ≡ true
    unfolding fit_parts
    tables_parts =
        let counted : legal_count n ≡ true = count_legal n low high in
        let tables : every n (fit_table_at words n) ≡ true = every_of n (fit_table_at words n) table_passes in
        let senders : every n (fit_sender words bytes n) ≡ true = every_of n (fit_sender words bytes n) sender_fits in
        both_of _ _
        (both_of _ _
        (both_of _ _
        (both_of _ _
        (both_of _ _ (both_of _ _ (eq-eqb _ _ (fit_length words bytes e)) (eq-eqb _ _ (bytes_length words bytes e))) counted)
        tables)
        words_rest)
        senders)
        bytes_rest
