-- `border::networks::puntclover_network_fresh` meets its contract: the tests are the definition's, in its order; past them the numbers of a fresh network are laid.
use Prim.Native.Nat.{ℕ}
use lib.ListN.{length-replicate}
use Rattle.ground.specs.Rows.{zeros}
use Rattle.rules.specs.Tables.{network_words}
use Rattle.ground.proofs.Limits.{count_legal, count_low, count_high}
use Rattle.border.proofs.NetworkBorder.{fresh_bad, fresh_other, fresh_short, fresh_laid}
use Rattle.ground.proofs.Clauses.{heard_answer_words_queues, told_answer_units_queues}
use Rattle.border.proofs.networks.puntclover_network_fresh.Goals as goal

pub returns-then-count-lt2 : goal.returns-then-count-lt2
returns-then-count-lt2 c =
    let args = c.args in
    rw c.number.ensures
    (told_answer_units_queues (fresh_bad args.units.now args.queues.now args.count (count_low _ c.if-count-lt2.true)))

pub returns-then-count : goal.returns-then-count
returns-then-count c =
    let args = c.args in
    rw c.number-then-count.ensures
    (told_answer_units_queues (fresh_bad args.units.now args.queues.now args.count (count_high _ c.if-count.true)))

pub returns-then-units-ne-UNITS_BYTES : goal.returns-then-units-ne-UNITS_BYTES
returns-then-units-ne-UNITS_BYTES c =
    let args = c.args in
    rw c.number-then-units-ne-UNITS_BYTES.ensures
    (told_answer_units_queues (fresh_other args.units.now args.queues.now args.count
    (count_legal _ c.if-count-lt2.false c.if-count.false) c.if-units-ne-UNITS_BYTES.true))

pub returns-then-queues-ne-NETWORK_BYTES : goal.returns-then-queues-ne-NETWORK_BYTES
returns-then-queues-ne-NETWORK_BYTES c =
    let args = c.args in
    rw c.number-then-queues-ne-NETWORK_BYTES.ensures
    (told_answer_units_queues (fresh_short args.units.now args.queues.now args.count
    (count_legal _ c.if-count-lt2.false c.if-count.false) c.if-units-ne-UNITS_BYTES.false c.if-queues-ne-NETWORK_BYTES.true))

pub returns : goal.returns
returns c =
    let args = c.args in
    rw c.done.ensures
    (told_answer_units_queues (fresh_laid args.units.now args.queues.now args.count
    (count_legal _ c.if-count-lt2.false c.if-count.false) c.if-units-ne-UNITS_BYTES.false c.if-queues-ne-NETWORK_BYTES.false
    (zeros network_words) (length-replicate {A = ℕ} network_words 0)
    (heard_answer_words_queues c.fresh-answer.ensures)
    c.lay_numbers.ensures))
