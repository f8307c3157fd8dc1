-- One queue: its bytes pass the code's test exactly when they are what the messages read from them lay out, and these
-- messages pass the rules' test.
use Prim.Native.Nat.{ℕ, ◌*◌, ◌≤◌, ◌<◌}
use native.Mathlib.Omega.{arith}
use mathlib.Core.Bool.{Bool, true, ◌||◌}
use mathlib.Core.List.{List, ◌++◌, map, append_assoc}
use mathlib.Core.Path.{◌≡◌, refl, sym, ap, ◌∙◌}
use lib.Dec.{eqb}
use lib.ListN.{length, take, drop, take-append-drop}
use lib.Seq.{get_or-take, take_at, drop_at}
use borrow.Author.Tests.{le-leb, eq-eqb}
use Rattle.ground.specs.Limits.{unit_limit, queue_room, entry_limit, message_room}
use Rattle.ground.specs.Rows.{at, tab, joined, filled}
use Rattle.ground.proofs.Each.{each_at, each_of}
use Rattle.ground.proofs.Filled.{length_filled}
use Rattle.ground.proofs.Lists.{parts, map_tab, Under}
use Rattle.ground.proofs.Rows.{length_tab, tab_at, tab_row, every_at, every_of}
use Rattle.ground.proofs.Tests.{both_of}
use Rattle.rules.specs.Message.{Message, written, written_length, message_of, legal_message, readable}
use Rattle.rules.specs.Network.{fit_queued}
use Rattle.rules.specs.Tables.{part, queue_bytes, laid_queue, queue_from}
use Rattle.rules.proofs.Laid.{no_message, message_at, part_length}
use Rattle.rules.proofs.LegalMessages.{legal_of}
use Rattle.rules.proofs.QueuedMessages.{queued_legal, queued_sender, Proper, proper_shaped}
use Rattle.rules.proofs.Written.{written-length, written_readable, reads_back_from, readable_of, writes_back}
use Rattle.queues.specs.Queue.{held_in}
use Rattle.queues.proofs.QueueMessages.{held_laid}
use Rattle.queues.proofs.QueueThere.{held_most}
use Rattle.fitness.specs.PartsFit.{length_in, fit_place, fit_bytes}
use Rattle.fitness.proofs.Tiles.{zeros_nothing, fills, under_part, tiled, tile, after_tiles}

-- The bytes of the place that holds a message.
abbrev pub place_of : Message → List ℕ
place_of m = filled message_room (written m)

-- Byte 3 of a message is the number of its entries, whatever follows.
entries_at : (m : Message) (rest : List ℕ) → at (written m ++ rest) 3 ≡ length m.changes
unfolding written
entries_at m rest = refl

-- Byte 1 is its sender.
sender_at : (m : Message) (rest : List ℕ) → at (written m ++ rest) 1 ≡ m.sender
unfolding written
sender_at m rest = refl

module _ (n a : ℕ) (high : n ≤ unit_limit) where
  module _ (m : Message) (fit : fit_queued n a m ≡ true) where
    -- It has no more entries than there is room for.
    few : length m.changes ≤ entry_limit
    few = omega (arith, (legal_of n m (queued_legal n a m fit)).entries)

    -- Its bytes fill a place.
    pub place_length : length (place_of m) ≡ message_room
    place_length = length_filled message_room (written m) (omega (arith, written-length m, few))

    -- The place is fit.
    pub place_fits : fit_place n a (place_of m) ≡ true
    unfolding fit_place
    place_fits =
        let long = written-length m in
        let legal = queued_legal n a m fit in
        let sent = queued_sender n a m fit in
        rw (
          entries_at m _,
          sender_at m _,
          take_at (written m) _ (written_length (length m.changes)) long,
          drop_at (written m) _ (written_length (length m.changes)) long,
        )
        (search (both_of, le-leb, eq-eqb, few, sent, written_readable n m legal, zeros_nothing))

  module _ (p : List ℕ) (small : Under 256 p) (long : length p ≡ message_room) (fit : fit_place n a p ≡ true) where
    -- The bytes at the start of a fit place are a message's.
    start_readable : readable n (take (length_in p) p) ≡ true
    unfolding fit_place
    start_readable = search parts

    -- A fit place is what the message at its start lays out.
    start_written : place_of (message_of (take (length_in p) p)) ≡ p
    unfolding fit_place
    start_written =
        rw (writes_back n (take (length_in p) p) start_readable (under_part 256 p 0 (length_in p) small))
        (fills message_room (length_in p) p long (search parts))

    -- The message at its start is read from it, whatever follows.
    start_read : (rest : List ℕ) → message_of (p ++ rest) ≡ message_of (take (length_in p) p)
    start_read rest =
        let m = message_of (take (length_in p) p) in
        ap (λ (q : List ℕ). message_of (q ++ rest)) (sym start_written)
        ∙ ap message_of (append_assoc (written m) _ rest)
        ∙ reads_back_from m _

    -- So it is what the message that is read from it lays out.
    pub place_back : (rest : List ℕ) → place_of (message_of (p ++ rest)) ≡ p
    place_back rest = ap place_of (start_read rest) ∙ start_written

    -- The message may be queued.
    pub place_queued : (rest : List ℕ) → fit_queued n a (message_of (p ++ rest)) ≡ true
    unfolding fit_queued fit_place message_of
    place_queued rest =
        let legal : legal_message n (message_of (take (length_in p) p)) ≡ true =
        (readable_of n (take (length_in p) p) start_readable).legal in
        ap (fit_queued n a) (start_read rest)
        ∙ both_of _ _ legal (ap (λ (x : ℕ). eqb x a) (get_or-take (length_in p) p 1 0 (omega arith)) ∙ (search parts))

-- What the rules ask of a queue: at most its room of messages, each of which may be queued; none where the link is down.
pub record QueueFit (n a : ℕ) (up : Bool) (ms : List Message) : Type 0 where
  pub room : length ms ≤ queue_room
  pub proper : Proper n a ms
  pub quiet : up || eqb (length ms) 0 ≡ true

module _ (n a : ℕ) (high : n ≤ unit_limit) (up : Bool) where
  module _ (ms : List Message) (f : QueueFit n a up ms) where
    -- The bytes of place i.
    abbrev place : ℕ → List ℕ
    place i = place_of (message_at ms i)

    -- Each place has its length.
    place_wide : (i : ℕ) → i < length ms → length (place i) ≡ message_room
    place_wide i l = place_length n a high (message_at ms i) (each_at f.proper i no_message l)

    -- They are the places of its messages, and nothing after.
    places_laid : filled queue_bytes (joined (tab (length ms) place)) ≡ laid_queue ms
    unfolding laid_queue
    places_laid =
        ap (λ (ps : List (List ℕ)). filled queue_bytes (joined ps))
        (sym (map_tab place_of (length ms) (message_at ms)) ∙ ap (map place_of) (tab_row (length ms) ms no_message refl))

    -- The bytes that it lays out pass the code's test.
    pub bytes_fit : fit_bytes n a up (laid_queue ms) ≡ true
    unfolding fit_bytes
    bytes_fit =
        rw (held_laid n high ms (proper_shaped n a ms f.room f.proper), ← places_laid)
        (both_of _ _
        (both_of _ _ f.quiet
        (every_of (length ms) _ (λ i l.
        ap (fit_place n a) (tile message_room (length ms) queue_bytes place place_wide i l)
        ∙ place_fits n a high (message_at ms i) (each_at f.proper i no_message l))))
        (after_tiles message_room (length ms) queue_bytes place place_wide))

  module _ (q : List ℕ) (small : Under 256 q) (long : length q ≡ queue_bytes) (fit : fit_bytes n a up q ≡ true) where
    -- The message at place i.
    message : ℕ → Message
    message i = message_of (drop (i * message_room) q)

    module _ (i : ℕ) (l : i < held_in q) where
      -- The bytes of place i.
      abbrev here : List ℕ
      here = part q (i * message_room) message_room

      -- The bytes after them.
      abbrev after : List ℕ
      after = drop message_room (drop (i * message_room) q)

      -- They have their length.
      here_length : length here ≡ message_room
      here_length = part_length q (i * message_room) message_room (omega (arith, held_most q))

      -- They are fit.
      here_fits : fit_place n a here ≡ true
      unfolding fit_bytes
      here_fits = every_at (held_in q) (λ j. fit_place n a (part q (j * message_room) message_room)) (search parts) i l

      -- The message is read from them, whatever follows.
      message_here : message i ≡ message_of (here ++ after)
      unfolding message
      message_here = ap message_of (sym (take-append-drop message_room (drop (i * message_room) q)))

      -- Place i is what its message lays out.
      message_back : place_of (message i) ≡ here
      message_back =
          ap place_of message_here
          ∙ place_back n a high here (under_part 256 q (i * message_room) message_room small) here_length here_fits after

      -- The message may be queued.
      message_queued : fit_queued n a (message i) ≡ true
      message_queued =
          ap (fit_queued n a) message_here
          ∙ place_queued n a high here (under_part 256 q (i * message_room) message_room small) here_length here_fits after

    -- Bytes that pass the code's test are what their messages lay out.
    pub queue_back : laid_queue (queue_from q) ≡ q
    unfolding laid_queue queue_from fit_bytes held_in message
    queue_back =
        ap (λ (ps : List (List ℕ)). filled queue_bytes (joined ps)) (map_tab place_of (held_in q) message)
        ∙ tiled message_room (held_in q) queue_bytes (λ i. place_of (message i)) q long message_back (search parts)

    -- Their messages pass the rules' test.
    pub queue_fit : QueueFit n a up (queue_from q)
    unfolding queue_from fit_bytes held_in message
    queue_fit =
        record {
          room = rw (length_tab (held_in q) message) (held_most q);
          proper =
              each_of (queue_from q) no_message (λ i l.
              let h : i < held_in q = rw (length_tab (held_in q) message) at l in
              ap (fit_queued n a) (tab_at (held_in q) message i no_message h) ∙ message_queued i h);
          quiet = rw (length_tab (held_in q) message) (search parts);
        }
