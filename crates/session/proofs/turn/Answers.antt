-- `session::turn` meets its contract: what is lent goes on as it would have.
use mathlib.Core.Path.{sym}
use borrow.Author.Tests.{not-true, not-false}
use lib.Seq.{length-take-le}
use Rattle.session.proofs.Turning.{turn_open, turn_whole, turn_inside, turn_further}
use Rattle.ground.proofs.Clauses.{heard_held_place_whole_line, heard_performed}
use Rattle.session.proofs.turn.Goals as goal

pub returns-then-not-taken : goal.returns-then-not-taken
returns-then-not-taken c =
    let a = c.args in
    let told = (heard_held_place_whole_line c.take_line-taken.ensures) in record {
      same = turn_open a.words.now a.queues.now a.meter.now a.out.now a.reached.used a.chunk.now
          a.line.now a.reached.held a.reached.place c.requires.1 _ told (not-true _ c.if-not-taken.true);
      further = turn_further a.line.now a.chunk.now a.reached.held a.reached.place _ _ c.requires.1 told
          c.requires.0;
    }

pub slice_bounds-answer-end : goal.slice_bounds-answer-end
slice_bounds-answer-end c =
    let a = c.args in
    turn_inside a.line.now a.chunk.now a.reached.held a.reached.place _ _ c.requires.1
    (heard_held_place_whole_line c.take_line-taken.ensures)

pub slice_bounds-answer-end-2 : goal.slice_bounds-answer-end-2
slice_bounds-answer-end-2 c =
    let a = c.args in
    sym
    (length-take-le _ _
    (turn_inside a.line.now a.chunk.now a.reached.held a.reached.place _ _ c.requires.1
    (heard_held_place_whole_line c.take_line-taken.ensures)))

pub returns : goal.returns
returns c =
    let a = c.args in
    let told = (heard_held_place_whole_line c.take_line-taken.ensures) in record {
      same = turn_whole a.words.now a.queues.now a.meter.now a.out.now a.reached.used a.chunk.now
          a.line.now a.reached.held a.reached.place c.requires.1 _ told (not-false _ c.if-not-taken.false)
          (heard_performed c.answer-all.ensures);
      further = turn_further a.line.now a.chunk.now a.reached.held a.reached.place _ _ c.requires.1 told
          c.requires.0;
    }
