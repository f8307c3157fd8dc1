-- `fitness::fit::fit_place` meets its contract: each return is the definition, by the tests that led there.
use Prim.Native.Nat.{ℕ, ◌≤◌}
use native.Mathlib.Omega.{arith}
use mathlib.Core.Bool.{true}
use mathlib.Core.List.{List}
use mathlib.Core.Path.{◌≡◌, sym, ap, ◌∙◌}
use borrow.Author.Tests.{le-leb, lt-leb, eq-eqb, ne_eqb}
use lib.Dec.{leb}
use lib.ListN.{take}
use lib.Seq.{get_or-take, length-take-le}
use Rattle.ground.specs.Limits.{entry_limit}
use Rattle.ground.specs.Rows.{at}
use Rattle.ground.proofs.Clauses.{heard_answer_changes}
use Rattle.ground.proofs.Limits.{count_legal}
use Rattle.ground.proofs.Parts.{to_end}
use Rattle.rules.specs.Message.{message_of}
use Rattle.message.proofs.ReaderAnswers.{Taken, taken, unread}
use Rattle.slices.specs.Slices.{is_nothing}
use Rattle.fitness.specs.PartsFit.{length_in, fit_place}
use Rattle.fitness.proofs.fit.fit_place.Goals as goal
use Rattle.fitness.proofs.fit.fit_place.Goals.{In-Ok}

-- The bytes at the start of a place, which are read.
abbrev read_of : (place : List ℕ) → List ℕ
read_of place = take (length_in place) place

-- There are no more entries than there may be.
few : (place : List ℕ) → at place 3 ≤ entry_limit → leb (at place 3) entry_limit ≡ true
few place low = le-leb (at place 3) entry_limit low

-- The bytes are a message, and what was read is its.
got : (c : In-Ok)
    → Taken c.args.count (read_of c.args.place.now) c.in-Ok.header c.read-read.result.changes
got c =
    let args = c.args in
    taken args.count (read_of args.place.now) c.read-read.result
    (heard_answer_changes c.read-read.ensures) c.in-Ok.header c.in-Ok.is

-- Its sender is the place's second byte.
sent : (c : In-Ok) → c.in-Ok.header.sender ≡ at c.args.place.now 1
unfolding message_of
sent c =
    let place = c.args.place.now in
    (got c).of_sender ∙ get_or-take (length_in place) place 1 0 (omega arith)

pub overflow_cast-entries : goal.overflow_cast-entries
overflow_cast-entries c = omega (arith, c.type_inv.place 3)

pub returns-then-entries-gt-ENTRIES : goal.returns-then-entries-gt-ENTRIES
unfolding fit_place
returns-then-entries-gt-ENTRIES c = sym (rw (lt-leb _ entry_limit c.if-entries-gt-ENTRIES.true))

pub slice_bounds-read-end : goal.slice_bounds-read-end
slice_bounds-read-end c =
    let place = c.args.place.now in
    sym (length-take-le (length_in place) place (omega arith))

pub returns-in_default : goal.returns-in_default
unfolding fit_place
returns-in_default c =
    let args = c.args in
    let none =
    unread args.count (read_of args.place.now) c.read-read.result (heard_answer_changes c.read-read.ensures)
    (count_legal args.count c.requires.0 c.requires.1) c.in_default.field-0 c.in_default.is in
    sym (rw (few args.place.now c.if-entries-gt-ENTRIES.false, none))

pub returns-then-header-sender : goal.returns-then-header-sender
unfolding fit_place
returns-then-header-sender c =
    let there = (goal.at.returns-then-header-sender c).In-Ok in
    let args = c.args in
    sym (rw (
      few args.place.now c.if-entries-gt-ENTRIES.false,
      (got there).legible,
      ne_eqb (at args.place.now 1) args.sender (λ e. c.if-header-sender.true (sent there ∙ e)),
    ))

pub returns : goal.returns
unfolding fit_place
returns c =
    let there = (goal.at.returns c).In-Ok in
    let args = c.args in
    let place = args.place.now in
    c.is_nothing.ensures
    ∙ ap is_nothing (to_end place (length_in place))
    ∙ sym (rw (
      few place c.if-entries-gt-ENTRIES.false,
      (got there).legible,
      eq-eqb (at place 1) args.sender (sym (sent there) ∙ c.if-header-sender.false),
    ))
