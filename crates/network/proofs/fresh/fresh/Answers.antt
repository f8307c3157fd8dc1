-- `network::fresh::fresh` meets its contract. The tests are the definition's, in its order.
use native.Mathlib.Omega.{arith}
use mathlib.Core.Path.{sym, ap, ◌∙◌}
use borrow.Author.Tests.{eq-eqb, ne_eqb}
use Rattle.ground.specs.Rows.{zeros}
use Rattle.ground.proofs.Limits.{count_legal, count_low, count_high}
use Rattle.rules.specs.NetworkTable.{fresh_words, fresh_bytes}
use Rattle.rules.specs.Tables.{network_words, network_bytes}
use Rattle.network.proofs.fresh.FreshTables.{fresh_queues}
use Rattle.network.proofs.fresh.fresh.Goals as goal

pub returns-then-count-lt2 : goal.returns-then-count-lt2
unfolding fresh_words fresh_bytes
returns-then-count-lt2 c =
    let low = count_low c.args.count c.if-count-lt2.true in
    record { answer = rw low; words = rw low; queues = rw low }

pub returns-then-count : goal.returns-then-count
unfolding fresh_words fresh_bytes
returns-then-count c =
    let high = count_high c.args.count c.if-count.true in
    record { answer = rw high; words = rw high; queues = rw high }

pub returns-then-words-ne-NETWORK_WORDS : goal.returns-then-words-ne-NETWORK_WORDS
unfolding fresh_words fresh_bytes
returns-then-words-ne-NETWORK_WORDS c =
    let legal = count_legal c.args.count c.if-count-lt2.false c.if-count.false in
    let numbers = ne_eqb _ network_words c.if-words-ne-NETWORK_WORDS.true in
    record { answer = rw (legal, numbers); words = rw (legal, numbers); queues = rw (legal, numbers) }

pub returns-then-queues-ne-NETWORK_BYTES : goal.returns-then-queues-ne-NETWORK_BYTES
unfolding fresh_words fresh_bytes
returns-then-queues-ne-NETWORK_BYTES c =
    let legal = count_legal c.args.count c.if-count-lt2.false c.if-count.false in
    let numbers = eq-eqb _ network_words c.if-words-ne-NETWORK_WORDS.false in
    let bytes = ne_eqb _ network_bytes c.if-queues-ne-NETWORK_BYTES.true in
    record { answer = rw (legal, numbers, bytes); words = rw (legal, numbers, bytes); queues = rw (legal, numbers, bytes) }

pub fresh_units-requires : goal.fresh_units-requires
fresh_units-requires c =
    (omega arith, omega arith, c.clear.ensures ∙ ap zeros c.if-words-ne-NETWORK_WORDS.false)

pub returns : goal.returns
unfolding fresh_words fresh_bytes
returns c =
    let legal = count_legal c.args.count c.if-count-lt2.false c.if-count.false in
    let numbers = eq-eqb _ network_words c.if-words-ne-NETWORK_WORDS.false in
    let bytes = eq-eqb _ network_bytes c.if-queues-ne-NETWORK_BYTES.false in
    let empty = sym (fresh_queues c.args.count c.if-count.false) in
    record {
      answer = rw (legal, numbers, bytes);
      words = rw (legal, numbers, bytes) c.fresh_units.ensures;
      queues = rw (legal, numbers, bytes) (c.clear-2.ensures ∙ ap zeros c.if-queues-ne-NETWORK_BYTES.false ∙ empty);
    }
