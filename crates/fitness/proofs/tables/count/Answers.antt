-- `fitness::tables::count` meets its contract: past the end of a list there is 0.
use native.Mathlib.Omega.{arith}
use mathlib.Core.Path.{sym}
use lib.ListN.{get_or-eq_default}
use Rattle.fitness.proofs.tables.count.Goals as goal

pub returns-then-words-eq0 : goal.returns-then-words-eq0
returns-then-words-eq0 c = sym (get_or-eq_default c.args.words.now 0 {n = 0} (omega arith))
