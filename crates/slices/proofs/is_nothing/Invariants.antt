-- The invariant: the greatest so far, and of what is to come, is the greatest of all.
use mathlib.Core.Path.{◌≡◌}
use lib.ListN.{drop}
use Rattle.slices.specs.Slices.{greatest_of}
use Rattle.slices.proofs.is_nothing.Given as goal

abbrev pub invariant-loop-number : goal.invariant-loop-number
invariant-loop-number g l =
    greatest_of g.T.Ord.cmp l.most (drop l.number-index l.numbers) ≡ greatest_of g.T.Ord.cmp g.T.Number.zero l.numbers
