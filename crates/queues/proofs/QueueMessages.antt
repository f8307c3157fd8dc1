-- The bytes of a queue of legal messages: how many it holds, its first message taken out, a message put at its end.
use Prim.Native.Nat.{ℕ, ◌+◌, ◌-◌, ◌*◌, ◌≤◌, ◌<◌}
use native.Mathlib.Omega.{arith}
use mathlib.Core.List.{List, [], ◌∷◌, ◌++◌, map, map-append, append-nil, append_assoc}
use mathlib.Core.Logic.{◌≢◌}
use mathlib.Core.Path.{◌≡◌, refl, sym, ap, ◌∙◌}
use lib.ListN.{length, take, drop, length-append}
use lib.Seq.{take_at, drop_at}
use Rattle.ground.specs.Limits.{unit_limit, queue_room, message_room}
use Rattle.ground.specs.Rows.{at, filled, joined}
use Rattle.rules.specs.Message.{Message, written, written_length, message_of}
use Rattle.rules.specs.Network.{next_message}
use Rattle.rules.specs.Tables.{queue_bytes, laid_queue, queue_from}
use Rattle.ground.proofs.Filled.{length_filled}
use Rattle.ground.proofs.Lists.{joined_append, map_length}
use Rattle.ground.proofs.Places.{filled_behind}
use Rattle.ground.proofs.Rows.{length_tab}
use Rattle.rules.proofs.Laid.{ShapedQueue, queue_reads_back, no_message, message_at}
use Rattle.rules.proofs.LegalMessages.{Legal}
use Rattle.rules.proofs.Written.{written-length}
use Rattle.queues.specs.Queue.{held_in, popped_of, appended_of}
use Rattle.slices.proofs.Overlaid.{filled_inner, paste_filled, laid_fits}

-- Bytes hold as many messages as are read from them.
pub held-from : (bytes : List ℕ) → held_in bytes ≡ length (queue_from bytes)
unfolding held_in queue_from
held-from bytes = sym (length_tab (held_in bytes) (λ i. message_of (drop (i * message_room) bytes)))

-- The bytes of one place.
abbrev place : Message → List ℕ
place m = filled message_room (written m)

module _ (n : ℕ) (low : n ≤ unit_limit) where
  -- A legal message has its place.
  pub message_short : (m : Message) → Legal n m → length (written m) ≤ message_room
  message_short m legal = omega (arith, written-length m, legal.entries)

  module _ (ms : List Message) (q : ShapedQueue n ms) where
    -- A queue's bytes hold its messages.
    pub held_laid : held_in (laid_queue ms) ≡ length ms
    held_laid = held-from (laid_queue ms) ∙ ap length (queue_reads_back n low ms q)

    -- The messages have together a place for each.
    places_length : length (joined (map place ms)) ≡ length ms * message_room
    places_length =
        map_length message_room place ms no_message
        (λ i l. length_filled message_room (written (message_at ms i)) (message_short (message_at ms i) (q.each i l)))

    -- A message laid behind them.
    pub appended_laid : length ms < queue_room → (m : Message) → Legal n m
        → appended_of (laid_queue ms) (written m) ≡ laid_queue (ms ++ (m ∷ []))
    unfolding appended_of laid_queue
    appended_laid free m legal =
        let short : length (written m) ≤ message_room = message_short m legal in
        let front : List ℕ = joined (map place ms) in
        let fits : length front + length (written m) ≤ queue_bytes = omega (arith, places_length) in
        rw (held_laid, ← places_length)
        (laid_fits (filled queue_bytes front) (length front) (written m)
        (omega (arith, length_filled queue_bytes front (omega arith)))
        ∙ paste_filled queue_bytes front (written m) fits
        ∙ sym (filled_inner queue_bytes message_room front (written m) short (omega (arith, places_length)))
        ∙ sym (rw (map-append place ms, joined_append (map place ms), append-nil (place m))))

  -- The first message taken out.
  pub popped_laid : (ms : List Message) → ShapedQueue n ms → popped_of (laid_queue ms) ≡ laid_queue (drop 1 ms)
  unfolding popped_of laid_queue
  popped_laid [] q = refl
  popped_laid (m ∷ ms) q =
      let others : List ℕ = joined (map place ms) in
      let left : ℕ = (queue_room - 1) * message_room in
      let wide : length (place m) ≡ message_room =
      length_filled message_room (written m) (message_short m (q.each 0 (omega arith))) in
      let few : length others ≤ left = omega (arith, places_length (m ∷ ms) q, length-append (place m) others, q.room) in
      ap (λ (xs : List ℕ). filled queue_bytes (drop message_room xs)) (filled_behind message_room left (place m) others wide)
      ∙ ap (filled queue_bytes) (drop_at (place m) (filled left others) message_room wide)
      ∙ filled_inner queue_bytes left [] others few (omega arith)

-- A queue's bytes begin with 0 exactly where it is empty.
pub begins_empty : (ms : List Message) → at (laid_queue ms) 0 ≡ 0 → length ms ≡ 0
unfolding laid_queue written
begins_empty [] e = refl
begins_empty (m ∷ ms) e = absurd (omega arith)

-- Bytes of a queue that begin with its first message, whose number of entries says how long it is.
pub record Begins (ms : List Message) : Type 0 where
  pub some : 0 < length ms
  pub entries : at (laid_queue ms) 3 ≡ length (next_message ms).changes
  pub first : take (written_length (at (laid_queue ms) 3)) (laid_queue ms) ≡ written (next_message ms)

-- So they begin where the first of them is not 0.
pub begins_first : (ms : List Message) → at (laid_queue ms) 0 ≢ 0 → Begins ms
unfolding laid_queue written
begins_first [] some = absurd (some refl)
begins_first (m ∷ ms) some =
    record {
      some = omega arith;
      entries = refl;
      first =
          ap (take (written_length (length m.changes)))
          (append_assoc (place m) (joined (map place ms)) _ ∙ append_assoc (written m) _ _)
          ∙ take_at (written m) _ (written_length (length m.changes)) (written-length m);
    }
