-- `events::tell::tell_first_into` meets its contract: the bytes that are lent are those of the queue's first message.
use native.Mathlib.Omega.{arith}
use mathlib.Core.Path.{◌≡◌}
use borrow.Author.Rules.{rules}
use lib.ListN.{length, length-take}
use Rattle.rules.specs.Tables.{queue_bytes}
use Rattle.events.proofs.ToldUnit.{none_first, none_laid, some_first, some_laid}
use Rattle.events.proofs.tell.tell_first_into.Goals as goal

pub returns-then-queue-eq0 : goal.returns-then-queue-eq0
returns-then-queue-eq0 c =
    let s = c.args in
    record { answer = none_first s.words.now s.queues.now s.a s.b c.load-queue.ensures c.if-queue-eq0.true; told = none_laid s.words.now s.queues.now s.a s.b c.load-queue.ensures c.if-queue-eq0.true s.told.now }

pub slice_bounds-tell_bytes-end : goal.slice_bounds-tell_bytes-end
slice_bounds-tell_bytes-end c =
    let wide : length c.load-queue.result ≡ queue_bytes = search rules in
    omega (arith, length-take c.first_length-length.result c.load-queue.result)

pub returns : goal.returns
returns c =
    let s = c.args in
    let wide : length c.load-queue.result ≡ queue_bytes = search rules in
    let load = c.load-queue.ensures in
    let some = c.if-queue-eq0.false in
    let long = c.first_length-length.ensures in
    record {
      answer = some_first s.words.now s.queues.now s.a s.b load some wide long c.tell_bytes.ensures.answer;
      told = some_laid s.words.now s.queues.now s.a s.b load some wide long s.told.now c.tell_bytes.ensures.told;
    }
