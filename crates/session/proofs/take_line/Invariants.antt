-- The invariant: what is taken from here is what was to be taken, and the place is not past the end that the loop runs to.
use Prim.Native.Nat.{◌≤◌, max}
use mathlib.Core.Path.{◌≡◌}
use lib.ListN.{length, drop}
use Rattle.session.specs.Taking.{taken}
use Rattle.session.proofs.take_line.Given as goal

abbrev pub invariant-loop-place : goal.invariant-loop-place
invariant-loop-place l = (length l.line ≡ length l.initial.line) × (taken l.line l.held l.place (drop l.place l.chunk) ≡ taken l.initial.line l.before l.from (drop l.from l.chunk))
    × (l.place ≤ max l.from (length l.chunk))
