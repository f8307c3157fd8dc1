-- `fitness::tables::is_linked` meets its contract: each return is a law on the tests that led there.
use mathlib.Core.Path.{sym}
use Rattle.fitness.proofs.TableThere.{other_length, no-unit, linked_none, linked_not, linked_is}
use Rattle.fitness.proofs.tables.is_linked.Goals as goal

pub returns-then-words-ne-NETWORK_WORDS : goal.returns-then-words-ne-NETWORK_WORDS
returns-then-words-ne-NETWORK_WORDS c =
    let args = c.args in
    linked_none args.words.now args.a (other_length args.words.now args.a c.if-words-ne-NETWORK_WORDS.true) args.b

pub returns-then-a-ge-UNITS : goal.returns-then-a-ge-UNITS
returns-then-a-ge-UNITS c =
    let args = c.args in
    linked_none args.words.now args.a (no-unit args.words.now args.a c.if-a-ge-UNITS.true) args.b

pub returns-then-b-ge-UNITS : goal.returns-then-b-ge-UNITS
returns-then-b-ge-UNITS c =
    let args = c.args in
    linked_not args.words.now args.a (record { long = c.if-words-ne-NETWORK_WORDS.false; unit = c.if-a-ge-UNITS.false })
    args.b c.if-b-ge-UNITS.true

pub returns : goal.returns
returns c =
    let args = c.args in
    sym
    (linked_is args.words.now args.a
    (record { long = c.if-words-ne-NETWORK_WORDS.false; unit = c.if-a-ge-UNITS.false }) args.b c.if-b-ge-UNITS.false)
