-- `Kind::number` meets its contract. What a changed number shows first is written out.
use mathlib.Core.Path.{sym, ap}
use Rattle.message.specs.Kind.{kind_number}
use Rattle.message.proofs.kind.Kind.number.Goals as goal

pub returns-in-Update : goal.returns-in-Update
returns-in-Update c = sym (ap kind_number c.in-Update.is)
