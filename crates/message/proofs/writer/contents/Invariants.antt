-- The invariant: the array holds the contents up to unit i, and zeros.
use Prim.Native.Nat.{ℕ, ◌≤◌}
use mathlib.Core.List.{List, [], ◌∷◌, ◌++◌, map}
use mathlib.Core.Path.{◌≡◌}
use lib.ListN.{length, take}
use Rattle.ground.specs.Limits.{message_room}
use Rattle.ground.specs.Rows.{filled}
use Rattle.rules.specs.Message.{edition, changed_unit}
use Rattle.message.proofs.writer.contents.Given as goal

-- The first four bytes, and the table of contents with the first i units.
abbrev pub front : (kind sender : ℕ) (changes : List ℕ) → List ℕ
front kind sender changes = edition ∷ sender ∷ kind ∷ length changes ∷ []

abbrev pub contents_up_to : (kind sender : ℕ) (changes : List ℕ) (i : ℕ) → List ℕ
contents_up_to kind sender changes i = front kind sender changes ++ map changed_unit (take i changes)

abbrev pub invariant-loop-i : goal.invariant-loop-i
invariant-loop-i l = (l.i ≤ length l.changes) × (l.built ≡ filled message_room (contents_up_to l.kind l.sender l.changes l.i))
