-- The invariant: `number` is that of the digits before `i`.
use mathlib.Core.Path.{◌≡◌}
use Rattle.lines.specs.Words.{value_to}
use Rattle.lines.proofs.value.Given as goal

abbrev pub invariant-loop-byte : goal.invariant-loop-byte
invariant-loop-byte l = l.number ≡ value_to l.word l.byte-index
