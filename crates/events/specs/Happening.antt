-- Order: an event that a unit was told of takes place where its messages find room, and else is refused with 13.
-- proofs/HeldNetwork.antt shows that the tables are then those of `reacted`, and proofs/MessageRoom.antt that without room the
-- network `overflows`.
use Rattle.std.specs.Prelude.{ℕ, Bool, ◌&&◌, List}
use Rattle.std.specs.Prelude.{if◌then◌else◌}
use Rattle.ground.specs.Refusal.{answer_base}
use Rattle.ground.specs.Rows.{at, zeros}
use Rattle.rules.specs.Tables.{queue_bytes}
use Rattle.queues.specs.Parcels.{has_room, sent_to}
use Rattle.queues.specs.Queue.{queue_of, with_bytes, popped_of}
use Rattle.fitness.specs.UnitTables.{with_table}
use Rattle.events.specs.declared.tell.Told.{Told}

-- Whether what unit i of n sends finds room, and the queues with it.
abbrev pub finds_room : (bytes : List ℕ) (n i : ℕ) → Told → Bool
finds_room bytes n i told = has_room bytes n i told.sent told.used

abbrev pub is_sent : (bytes : List ℕ) (n i : ℕ) → Told → List ℕ
is_sent bytes n i told = sent_to bytes i told.sent told.used n

-- The queues once the first message from a to b is taken out, if asked; once both queues between them are emptied, if asked.
abbrev pub popped_if : (pops : Bool) (bytes : List ℕ) (a b : ℕ) → List ℕ
popped_if pops bytes a b = if pops then with_bytes bytes a b (popped_of (queue_of bytes a b)) else bytes

abbrev pub emptied_if : (clears : Bool) (bytes : List ℕ) (a b : ℕ) → List ℕ
emptied_if clears bytes a b =
    if clears then with_bytes (with_bytes bytes a b (zeros queue_bytes)) b a (zeros queue_bytes) else bytes

-- An event at unit i.
unfoldable pub one_answer : (words bytes : List ℕ) (i : ℕ) → Told → ℕ
one_answer words bytes i told = if finds_room bytes (at words 0) i told then answer_base else 13

unfoldable pub one_words : (words bytes : List ℕ) (i : ℕ) → Told → List ℕ
one_words words bytes i told =
    if finds_room bytes (at words 0) i told then with_table words i told.table else words

unfoldable pub one_bytes : (words bytes : List ℕ) (other i : ℕ) → Told → (pops : Bool) → List ℕ
one_bytes words bytes other i told pops =
    if finds_room bytes (at words 0) i told then is_sent (popped_if pops bytes other i) (at words 0) i told else bytes

-- An event at each of two units.
abbrev pub both_find : (words bytes : List ℕ) (a : ℕ) → Told → (b : ℕ) → Told → Bool
both_find words bytes a one b two = finds_room bytes (at words 0) a one && finds_room bytes (at words 0) b two

unfoldable pub both_answer : (words bytes : List ℕ) (a : ℕ) → Told → (b : ℕ) → Told → ℕ
both_answer words bytes a one b two = if both_find words bytes a one b two then answer_base else 13

unfoldable pub both_words : (words bytes : List ℕ) (a : ℕ) → Told → (b : ℕ) → Told → List ℕ
both_words words bytes a one b two =
    if both_find words bytes a one b two then with_table (with_table words a one.table) b two.table else words

unfoldable pub both_bytes : (words bytes : List ℕ) (a : ℕ) → Told → (b : ℕ) → Told → (clears : Bool) → List ℕ
both_bytes words bytes a one b two clears =
    if both_find words bytes a one b two
    then is_sent (is_sent (emptied_if clears bytes a b) (at words 0) a one) (at words 0) b two
    else bytes
