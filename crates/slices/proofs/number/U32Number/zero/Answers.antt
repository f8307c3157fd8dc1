-- The zero of numbers is 0.
use mathlib.Core.Path.{refl}
use Rattle.slices.proofs.number.U32Number.zero.Goals as goal

pub returns : goal.returns
returns c = refl
