-- `session::goes_on` meets its contract: each return is a test of the definition.
use Prim.Native.Nat.{◌+◌, ◌-◌}
use native.Mathlib.Omega.{arith}
use borrow.Author.Tests.{eq-eqb, ne_eqb, le-leb, lt-leb, leb-true}
use lib.Dec.{leb}
use Rattle.ground.proofs.Tests.{and_no, same_tests}
use Rattle.script.specs.Answers.{answer_room}
use Rattle.session.specs.Lending.{kept_room, goes_on}
use Rattle.session.proofs.goes_on.Goals as goal

pub returns-then-kept-ne-KEPT_ROOM : goal.returns-then-kept-ne-KEPT_ROOM
unfolding goes_on
returns-then-kept-ne-KEPT_ROOM c = simp (ne_eqb _ kept_room c.if-kept-ne-KEPT_ROOM.true)

pub returns-then-held-gt-KEPT_ROOM : goal.returns-then-held-gt-KEPT_ROOM
unfolding goes_on
returns-then-held-gt-KEPT_ROOM c = simp (lt-leb _ kept_room c.if-held-gt-KEPT_ROOM.true, and_no)

pub returns-then-room-lt-ANSWER_ROOM : goal.returns-then-room-lt-ANSWER_ROOM
unfolding goes_on
returns-then-room-lt-ANSWER_ROOM c =
    let args = c.args in
    simp (lt-leb (args.used + answer_room) args.room (omega arith), and_no)

pub returns : goal.returns
unfolding goes_on
returns c =
    let args = c.args in
    simp (eq-eqb _ kept_room c.if-kept-ne-KEPT_ROOM.false, le-leb _ kept_room c.if-held-gt-KEPT_ROOM.false)
    (same_tests (leb args.used (args.room - answer_room)) (leb (args.used + answer_room) args.room)
    (λ t. le-leb (args.used + answer_room) args.room (omega (arith, leb-true args.used (args.room - answer_room) t)))
    (λ t. le-leb args.used (args.room - answer_room) (omega (arith, leb-true (args.used + answer_room) args.room t))))
