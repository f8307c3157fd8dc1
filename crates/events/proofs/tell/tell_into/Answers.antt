-- `events::tell::tell_into` meets its contract: no bytes are brought.
use Rattle.events.proofs.tell.tell_into.Goals as goal

pub returns : goal.returns
returns c = record { answer = c.tell_bytes.ensures.answer; told = c.tell_bytes.ensures.told }
