-- `Kind::try_from` meets its contract. What another kind shows first is written out.
use mathlib.Core.Path.{sym}
use Rattle.message.proofs.kind.KindTryFromU32.try_from.Goals as goal

pub returns-in-3 : goal.returns-in-3
returns-in-3 c = sym c.in-3.is
