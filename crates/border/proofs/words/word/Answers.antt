-- `border::words::word` meets its contract: the four bytes, the high one first.
use native.Mathlib.Omega.{arith}
use Rattle.border.proofs.words.word.Goals as goal

pub returns : goal.returns
returns c = omega arith
