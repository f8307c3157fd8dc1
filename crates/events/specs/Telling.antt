-- Order: a unit's event, told to a copy of its table with a buffer of zeros for its messages. proofs/ToldUnit.antt shows that
-- the copy then holds what the rules' `reaction` leaves.
use Rattle.std.specs.Prelude.{ℕ, ◌+◌, ◌-◌, List, Result, Ok, Err, eqb, take}
use Rattle.std.specs.Prelude.{if◌then◌else◌}
use Rattle.ground.specs.Limits.{firmware_room}
use Rattle.ground.specs.Refusal.{answer_base}
use Rattle.ground.specs.Refused.{number_of}
use Rattle.ground.specs.Rows.{at, zeros}
use Rattle.ground.specs.declared.refusals.Refusal.{Refusal}
use Rattle.rules.specs.Hub.{HubCall, hub_message, table_answer, table_after, buffer_after}
use Rattle.rules.specs.Message.{written_length}
use Rattle.rules.specs.Tables.{unit_words}
use Rattle.queues.specs.Queue.{queue_of}
use Rattle.fitness.specs.UnitTables.{table_of}
use Rattle.events.specs.declared.tell.Told.{Told}

-- The number of what is told: the refusal's, or 100 plus the bytes of the messages.
abbrev pub told_as : Result Told Refusal → ℕ
told_as (Ok told) = answer_base + told.used
told_as (Err refusal) = number_of refusal

-- The same, of what is laid into a struct.
abbrev pub laid_as : {Value : Type 0} → Result Value Refusal → Told → ℕ
laid_as (Ok done) told = answer_base + told.used
laid_as (Err refusal) told = number_of refusal

-- Before any event: no table and no message.
abbrev pub nothing_told : Told
nothing_told = record { table = zeros unit_words; sent = zeros firmware_room; used = 0 }

-- What the copy then holds, what the buffer does, and the bytes of the messages in it.
abbrev pub told_by : (table : List ℕ) → HubCall → Told
told_by table call =
    record {
      table = table_after table firmware_room call;
      sent = buffer_after table (zeros firmware_room) call;
      used = table_answer table firmware_room call - answer_base;
    }

-- The bytes of the first message of a queue, by its number of entries.
abbrev pub first_in : (queue : List ℕ) → List ℕ
first_in queue = take (written_length (at queue 3)) queue

-- What is told of the first message of the queue from a to b; 8 where there is none.
abbrev pub first_told : (words bytes : List ℕ) (a b : ℕ) → Told
first_told words bytes a b = told_by (table_of words b) (hub_message a (first_in (queue_of bytes a b)))

-- What a struct then holds: that, or what it held where there is no message.
unfoldable pub first_laid : (words bytes : List ℕ) (a b : ℕ) → (held : Told) → Told
first_laid words bytes a b held = if eqb (at (queue_of bytes a b) 0) 0 then held else first_told words bytes a b

unfoldable pub first_answer : (words bytes : List ℕ) (a b : ℕ) → ℕ
first_answer words bytes a b =
    if eqb (at (queue_of bytes a b) 0) 0 then 8
    else table_answer (table_of words b) firmware_room (hub_message a (first_in (queue_of bytes a b)))
