-- `meter::questions::field_of` meets its contract: each arm answers its own field.
use Rattle.meter.proofs.questions.field_of.Goals as goal

pub returns-in-Size : goal.returns-in-Size
returns-in-Size c = rw c.in-Size.is

pub returns-in-Unit : goal.returns-in-Unit
returns-in-Unit c = rw c.in-Unit.is

pub returns-in-Destination : goal.returns-in-Destination
returns-in-Destination c = rw c.in-Destination.is

pub returns-in-Hops : goal.returns-in-Hops
returns-in-Hops c = rw c.in-Hops.is
