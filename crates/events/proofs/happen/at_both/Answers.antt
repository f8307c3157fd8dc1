-- `events::happen::at_both` meets its contract: 13 where a message finds no room, else the events take place.
use mathlib.Core.Bool.{not}
use mathlib.Core.Path.{ap}
use Rattle.events.proofs.TakesPlace.{both_refused, both_happened}
use Rattle.ground.proofs.Clauses.{heard_words_queues, told_answer_words_queues}
use Rattle.events.proofs.happen.at_both.Goals as goal

pub returns-then-not-have_room : goal.returns-then-not-have_room
returns-then-not-have_room c =
    let s = c.args in
    told_answer_words_queues (both_refused s.words.now s.queues.now c.count-count.ensures s.a s.one s.b s.two s.clears
    c.have_room.ensures (ap not c.if-not-have_room.true))

pub returns : goal.returns
returns c =
    let s = c.args in
    told_answer_words_queues (both_happened s.words.now s.queues.now c.count-count.ensures s.a s.one s.b s.two s.clears
    c.have_room.ensures (ap not c.if-not-have_room.false) c.clear_if.ensures (heard_words_queues c.happens.ensures)
    (heard_words_queues c.happens-2.ensures))
