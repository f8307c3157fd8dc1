-- The invariant: the first i numbers are laid, the bytes after them are as they came.
use mathlib.Core.Path.{◌≡◌}
use Rattle.border.proofs.Numbers.{laid}
use Rattle.border.proofs.words.lay_numbers.Given as goal

abbrev pub invariant-loop-i : goal.invariant-loop-i
invariant-loop-i l = l.bytes ≡ laid l.initial.bytes l.numbers l.i
