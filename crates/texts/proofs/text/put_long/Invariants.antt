-- The invariant: the digits behind `first` are laid, and `rest` comes before.
use Prim.Native.Nat.{◌<◌}
use mathlib.Core.Path.{◌≡◌}
use lib.ListN.{length}
use Rattle.texts.specs.Texts.{long_room}
use Rattle.texts.proofs.Digits.{Begun}
use Rattle.texts.proofs.text.put_long.Given as goal

abbrev pub invariant-loop-rest : goal.invariant-loop-rest
invariant-loop-rest l = (l.first < long_room) × (length l.digits ≡ long_room) × Begun l.number l.digits l.rest l.first

abbrev pub decreases-loop-rest : goal.decreases-loop-rest
decreases-loop-rest l = l.rest
