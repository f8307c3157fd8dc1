-- Units and queues, and the parts of the tables that hold them. A unit whose rows have a place for each unit and a queue
-- of legal messages are each read back from what they lay out, and a fit table is what the unit read from it lays out.
use Prim.Native.Nat.{ℕ, zero, suc, ◌+◌, ◌*◌, ◌≤◌, ◌<◌}
use native.Mathlib.Omega.{arith}
use mathlib.Core.Bool.{Bool, true, false}
use mathlib.Core.List.{List, [], ◌∷◌, ◌++◌, map, append_assoc}
use mathlib.Core.Path.{◌≡◌, refl, sym, ap, ◌∙◌}
use lib.Dec.{eqb}
use lib.ListN.{length, get_or, take, drop, length-take, length-drop, length-map}
use lib.Seq.{drop-drop, take_at, get_or-append-add}
use Rattle.ground.specs.Limits.{unit_limit, queue_room, message_room}
use Rattle.ground.specs.Rows.{at, tab, lowest, joined, filled}
use Rattle.ground.proofs.Filled.{length_filled}
use Rattle.ground.proofs.Lists.{parts, map_at, Under, under_filled, under_joined, at_from, filled_past, lowest_is}
use Rattle.ground.proofs.Lists.{Wide, map_length, map_first}
use Rattle.ground.proofs.Rows.{length_tab, tab_at, tab_ext, tab_row, same_eq}
use Rattle.rules.specs.Message.{Message, written, message_of}
use Rattle.rules.specs.Tables.{queue_bytes, laid_queue, queue_from}
use Rattle.rules.specs.Tables.{row_start, copy_at, unit_words, part, laid_row, laid_unit, unit_from, fit_unit_table}
use Rattle.rules.specs.Unit.{Unit, successor_set}
use Rattle.rules.proofs.LegalMessages.{Legal}
use Rattle.rules.proofs.Written.{written-length, written_bytes, reads_back_from}

-- A unit whose rows each have a place for each unit below the count.
pub record ShapedUnit (u : Unit) : Type 0 where
  pub limit : u.count ≤ unit_limit
  pub costs : length u.costs ≡ u.count
  pub awaited : length u.awaited ≡ u.count
  pub tree : length u.tree ≡ u.count
  pub feasible : length u.feasible ≡ u.count
  pub copies : length u.copies ≡ u.count
  pub copy : (k : ℕ) → k < u.count → length (get_or u.copies k []) ≡ u.count

-- The rows that a unit's table has after its first two numbers.
rows : Unit → List (List ℕ)
rows u = u.costs ∷ u.awaited ∷ u.tree ∷ u.feasible ∷ tab u.count (successor_set u) ∷ u.copies

-- Each has the count's length.
row_length : (u : Unit) → ShapedUnit u → (r : ℕ) → r < length (rows u) → length (get_or (rows u) r []) ≡ u.count
unfolding rows
row_length u s zero l = s.costs
row_length u s (suc zero) l = s.awaited
row_length u s (suc (suc zero)) l = s.tree
row_length u s (suc (suc (suc zero))) l = s.feasible
row_length u s (suc (suc (suc (suc zero)))) l = length_tab u.count (successor_set u)
row_length u s (suc (suc (suc (suc (suc k))))) l = s.copy k (omega (arith, s.copies))

-- The table is the two numbers and then the rows, one after the other.
laid_rows : (u : Unit) → laid_unit u ≡ filled unit_words (u.count ∷ u.me ∷ joined (map laid_row (rows u)))
unfolding laid_unit rows
laid_rows u = simp append_assoc

-- Rows filled up to the unit limit are blocks.
row_blocks : (u : Unit) → ShapedUnit u → Wide unit_limit laid_row (rows u) []
row_blocks u s r l = length_filled unit_limit (get_or (rows u) r []) (omega (arith, row_length u s r l, s.limit))

-- There are 5 rows and one for each copy.
length_rows : (u : Unit) → ShapedUnit u → length (rows u) ≡ 5 + u.count
unfolding rows
length_rows u s = omega (arith, s.copies)

-- A unit's table has its fixed length.
pub laid_unit_length : (u : Unit) → ShapedUnit u → length (laid_unit u) ≡ unit_words
laid_unit_length u s =
    rw laid_rows
    (length_filled unit_words (u.count ∷ u.me ∷ joined (map laid_row (rows u)))
    (omega (arith, map_length unit_limit laid_row (rows u) [] (row_blocks u s), length_rows u s, s.limit)))

-- Row r of the rows laid one after the other is the unit's.
row_back : (u : Unit) → ShapedUnit u → (rest : List ℕ) (r : ℕ) → r < length (rows u)
    → take u.count (drop (r * unit_limit) (joined (map laid_row (rows u)) ++ rest)) ≡ get_or (rows u) r []
row_back u s rest r h =
    let found = map_first unit_limit laid_row (rows u) [] (row_blocks u s) rest r h in
    rw (found.1, append_assoc) (take_at (get_or (rows u) r []) _ u.count (row_length u s r h))

-- So row r of the table is.
unit_row : (u : Unit) → ShapedUnit u → (r : ℕ) → r < 5 + u.count
    → part (laid_unit u) (row_start r) u.count ≡ get_or (rows u) r []
unit_row u s r l = rw (laid_rows u, ← drop-drop) (row_back u s _ r (omega (arith, length_rows u s)))

-- Copy k is row 5 + k.
unit_copy : (u : Unit) → ShapedUnit u → (k : ℕ) → k < u.count
    → part (laid_unit u) (copy_at k) u.count ≡ get_or u.copies k []
unfolding rows
unit_copy u s k l =
    unit_row u s (5 + k) (omega arith)
    ∙ get_or-append-add
    (u.costs ∷ u.awaited ∷ u.tree ∷ u.feasible ∷ tab u.count (successor_set u) ∷ []) u.copies k []

-- A unit is read back from its table.
pub unit_reads_back : (u : Unit) → ShapedUnit u → unit_from (laid_unit u) ≡ u
unfolding unit_from laid_unit rows
unit_reads_back u s =
    let copies : tab u.count (λ k. part (laid_unit u) (copy_at k) u.count) ≡ u.copies =
    tab_ext u.count (λ k. part (laid_unit u) (copy_at k) u.count) (λ k. get_or u.copies k []) (unit_copy u s)
    ∙ tab_row u.count u.copies [] s.copies in
    λ i. record {
      count = u.count;
      me = u.me;
      costs = unit_row u s 0 (omega arith) i;
      awaited = unit_row u s 1 (omega arith) i;
      tree = unit_row u s 2 (omega arith) i;
      feasible = unit_row u s 3 (omega arith) i;
      copies = copies i;
    }

-- A part of a list has its length.
pub part_length : (words : List ℕ) (from n : ℕ) → from + n ≤ length words → length (part words from n) ≡ n
part_length words from n h = simp (length-take, length-drop) (omega arith)

-- A unit that is read from a table of the fixed length has rows of the count's length.
pub unit_shaped : (words : List ℕ) → at words 0 ≤ unit_limit → length words ≡ unit_words → ShapedUnit (unit_from words)
unfolding unit_from
unit_shaped words h e =
    record {
      limit = h;
      costs = part_length words (row_start 0) (at words 0) (omega arith);
      awaited = part_length words (row_start 1) (at words 0) (omega arith);
      tree = part_length words (row_start 2) (at words 0) (omega arith);
      feasible = part_length words (row_start 3) (at words 0) (omega arith);
      copies = length_tab (at words 0) (λ k. part words (copy_at k) (at words 0));
      copy =
          λ k l.
          ap length (tab_at (at words 0) (λ j. part words (copy_at j) (at words 0)) k [] l)
          ∙ part_length words (copy_at k) (at words 0) (omega arith);
    }

-- A fit table is what its unit lays out.
pub unit_lays_back : (words : List ℕ) → fit_unit_table words ≡ true → laid_unit (unit_from words) ≡ words
unfolding fit_unit_table
unit_lays_back words e = sym (same_eq words (laid_unit (unit_from words)) (search parts))

-- The message at place i of a queue; past its end there is none.
abbrev pub no_message : Message
no_message = record { kind = 0; sender = 0; changes = [] }

abbrev pub message_at : List Message → ℕ → Message
message_at ms i = get_or ms i no_message

-- A queue of at most queueRoom messages, each legal in a network of n units.
pub record ShapedQueue (n : ℕ) (ms : List Message) : Type 0 where
  pub room : length ms ≤ queue_room
  pub each : (i : ℕ) → i < length ms → Legal n (message_at ms i)

-- The bytes of one place.
place : Message → List ℕ
place m = filled message_room (written m)

module _ (n : ℕ) (low : n ≤ unit_limit) (ms : List Message) (q : ShapedQueue n ms) where
  -- The places that are taken are blocks.
  place_blocks : Wide message_room place ms no_message
  unfolding place
  place_blocks i l =
      length_filled message_room (written (message_at ms i))
      (omega (arith, written-length (message_at ms i), (q.each i l).entries))

  -- A queue's bytes have their fixed length.
  pub laid_queue_length : length (laid_queue ms) ≡ queue_bytes
  unfolding laid_queue place
  laid_queue_length =
      length_filled queue_bytes (joined (map place ms))
      (omega (arith, map_length message_room place ms no_message place_blocks, q.room))

  -- Each number that a queue lays out is a byte.
  pub laid_queue_bytes : Under 256 (laid_queue ms)
  unfolding laid_queue place
  laid_queue_bytes =
      under_filled 256 queue_bytes (joined (map place ms)) (omega arith)
      (under_joined 256 (map place ms) (omega arith) (λ i l.
      let h : i < length ms = rw (length-map ms place) at l in
      rw (map_at place ms i no_message [] h)
      (under_filled 256 message_room (written (message_at ms i)) (omega arith)
      (written_bytes n (message_at ms i) (q.each i h) (omega arith)))))

  -- Place i begins with the bytes of message i.
  from_place : (i : ℕ) → i < length ms
      → (more : List ℕ) × (drop (i * message_room) (laid_queue ms) ≡ written (message_at ms i) ++ more)
  unfolding laid_queue place
  from_place i l =
      let found = map_first message_room place ms no_message place_blocks _ i l in
      (_, found.1 ∙ append_assoc (written (message_at ms i)) _ _)

  -- A place that begins with 0 is free.
  abbrev is_free : ℕ → Bool
  is_free i = eqb (at (laid_queue ms) (i * message_room)) 0

  -- A place with a message is not.
  place_taken : (i : ℕ) → i < length ms → is_free i ≡ false
  unfolding written
  place_taken i l =
      ap (λ x. eqb x 0)
      (at_from (i * message_room) (laid_queue ms) _ (from_place i l).1 0 (i * message_room) (omega arith))

  -- The place after the last message is.
  place_free : is_free (length ms) ≡ true
  unfolding laid_queue place
  place_free =
      ap (λ x. eqb x 0)
      (filled_past queue_bytes (joined (map place ms)) (length ms * message_room)
      (omega (arith, map_length message_room place ms no_message place_blocks)))

  -- The first free place is the number of messages.
  places_taken : lowest queue_room is_free ≡ length ms
  places_taken = lowest_is queue_room is_free (length ms) q.room place_taken (λ l. place_free)

  -- A queue is read back from its bytes.
  pub queue_reads_back : queue_from (laid_queue ms) ≡ ms
  unfolding queue_from
  queue_reads_back =
      ap (λ k. tab k (λ i. message_of (drop (i * message_room) (laid_queue ms)))) places_taken
      ∙ tab_ext (length ms) (λ i. message_of (drop (i * message_room) (laid_queue ms))) (message_at ms) message
      ∙ tab_row (length ms) ms no_message refl
    where
      message : (i : ℕ) → i < length ms → message_of (drop (i * message_room) (laid_queue ms)) ≡ message_at ms i
      message i l =
          let found = from_place i l in
          rw found.1 (reads_back_from (message_at ms i) found.0)
