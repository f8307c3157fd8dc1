-- `Refusal::number` meets its contract. What a changed number shows first is written out.
use mathlib.Core.Path.{sym, ap}
use Rattle.ground.specs.Refused.{number_of}
use Rattle.ground.proofs.refusals.Refusal.number.Goals as goal

pub returns-in-LinkUp : goal.returns-in-LinkUp
returns-in-LinkUp c = sym (ap number_of c.in-LinkUp.is)
