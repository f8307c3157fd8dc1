-- The invariant: the first i numbers are taken, those after them are as they came.
use mathlib.Core.Path.{◌≡◌}
use Rattle.border.proofs.Numbers.{taken}
use Rattle.border.proofs.words.take_numbers.Given as goal

abbrev pub invariant-loop-i : goal.invariant-loop-i
invariant-loop-i l = l.numbers ≡ taken l.bytes l.initial.numbers l.i
