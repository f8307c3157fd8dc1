-- The invariant: the bytes of the text so far are put.
use mathlib.Core.Path.{◌≡◌}
use lib.ListN.{length, take}
use Rattle.slices.proofs.Putting.{Put}
use Rattle.slices.proofs.bytes.put_text.Given as goal

abbrev pub invariant-loop-byte : goal.invariant-loop-byte
invariant-loop-byte l = (length l.out ≡ length l.initial.out) × Put l.initial.out l.used (take l.byte-index l.text) l.then l.out
