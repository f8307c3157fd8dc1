-- The invariant: the first are zero, the rest as they were.
use Rattle.slices.proofs.Cleared.{Clearing}
use Rattle.slices.proofs.clear.Given as goal

abbrev pub invariant-loop-number : goal.invariant-loop-number
invariant-loop-number g l = Clearing g.T.Number.zero l.initial.numbers l.numbers l.number-index
