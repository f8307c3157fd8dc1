-- `events::happen::at_one` meets its contract: 13 where a message finds no room, else the event takes place.
use mathlib.Core.Bool.{not}
use mathlib.Core.Path.{ap}
use Rattle.events.proofs.TakesPlace.{one_refused, one_happened}
use Rattle.ground.proofs.Clauses.{heard_words_queues, told_answer_words_queues}
use Rattle.events.proofs.happen.at_one.Goals as goal

pub returns-then-not-has_room : goal.returns-then-not-has_room
returns-then-not-has_room c =
    let s = c.args in
    told_answer_words_queues (one_refused s.words.now s.queues.now c.count-count.ensures s.other s.i s.told s.pops
    c.has_room.ensures (ap not c.if-not-has_room.true))

pub returns : goal.returns
returns c =
    let s = c.args in
    told_answer_words_queues (one_happened s.words.now s.queues.now c.count-count.ensures s.other s.i s.told s.pops
    c.has_room.ensures (ap not c.if-not-has_room.false) c.pop_if.ensures (heard_words_queues c.happens.ensures))
