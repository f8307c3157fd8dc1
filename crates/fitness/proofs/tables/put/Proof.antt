-- `fitness::tables::put` meets its contract: nothing changes where there is no table, else the other is laid over its part.
use mathlib.Core.Path.{◌≡◌, refl, ◌∙◌}
use borrow.Author.Rules.{rules}
use lib.ListN.{length}
use Rattle.rules.specs.Tables.{unit_words}
use Rattle.fitness.proofs.TableThere.{other_length, no-unit, put_none, put_there}
use Rattle.fitness.proofs.tables.put.Statement.{statement}
use Rattle.fitness.proofs.tables.put.Tie as tie

-- The other table is a unit's.
wide : (c : tie.Start) → length c.args.table ≡ unit_words
wide c = search rules

returns : tie.Need-returns-then-words-ne-NETWORK_WORDS
returns c =
    let args = c.args in
    put_none args.words.now args.i (other_length args.words.now args.i c.if-words-ne-NETWORK_WORDS.true) args.table

returns_2 : tie.Need-returns-then-i-ge-UNITS
returns_2 c =
    let args = c.args in
    put_none args.words.now args.i (no-unit args.words.now args.i c.if-i-ge-UNITS.true) args.table

returns_3 : tie.Need-returns
returns_3 c =
    let laid = c.before.before in
    let tests = laid.before.before.before in
    let start = tests.before.before.before in
    laid.lay_over.ensures
    ∙ put_there start.args.words.now start.args.i
    (record { long = tests.if-words-ne-NETWORK_WORDS.false; unit = tests.if-i-ge-UNITS.false })
    start.args.table (wide start) refl

pub put_spec : {M : Type 1} → statement M
put_spec =
    tie.close
    (tie.spec
    returns
    returns_2
    (λ c. search rules) (λ c. search rules) (λ c. search rules) (λ c. search rules)
    returns_3)
