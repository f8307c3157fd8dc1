-- The invariant: the array holds the contents, the first i bodies, and zeros.
use Prim.Native.Nat.{◌≤◌}
use mathlib.Core.List.{◌++◌}
use mathlib.Core.Path.{◌≡◌}
use lib.ListN.{length, take}
use Rattle.ground.specs.Limits.{message_room}
use Rattle.ground.specs.Rows.{filled}
use Rattle.rules.specs.Message.{body_bytes}
use Rattle.message.specs.Writing.{contents_of}
use Rattle.message.proofs.writer.build.Given as goal

abbrev pub invariant-loop-i : goal.invariant-loop-i
invariant-loop-i l = (l.i ≤ length l.changes) × (l.built ≡ filled message_room (contents_of l.kind l.sender l.changes ++ body_bytes (take l.i l.changes)))
