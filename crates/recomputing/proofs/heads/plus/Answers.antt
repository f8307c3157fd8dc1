-- `recomputing::heads::plus` meets its contract: both returns are arithmetic.
use native.Mathlib.Omega.{arith}
use Rattle.recomputing.proofs.heads.plus.Goals as goal

pub returns-then-a-b : goal.returns-then-a-b
returns-then-a-b c = omega arith

pub returns-else-a-b : goal.returns-else-a-b
returns-else-a-b c = omega arith
