-- `fitness::tables::load` meets its contract: zeros where there is no table, else its part of all laid over them.
use Prim.Native.Nat.{◌*◌}
use mathlib.Core.Path.{refl, ◌∙◌}
use Rattle.rules.specs.Tables.{unit_words}
use Rattle.slices.proofs.Stretches.{lent}
use Rattle.fitness.proofs.TableThere.{other_length, no-unit, load_none, load_there}
use Rattle.fitness.proofs.tables.load.Goals as goal

pub returns-then-words-ne-NETWORK_WORDS : goal.returns-then-words-ne-NETWORK_WORDS
returns-then-words-ne-NETWORK_WORDS c =
    let args = c.args in
    load_none args.words.now args.i (other_length args.words.now args.i c.if-words-ne-NETWORK_WORDS.true)

pub returns-then-i-ge-UNITS : goal.returns-then-i-ge-UNITS
returns-then-i-ge-UNITS c =
    let args = c.args in
    load_none args.words.now args.i (no-unit args.words.now args.i c.if-i-ge-UNITS.true)

pub returns : goal.returns
returns c =
    let args = c.args in
    c.lay_over.ensures
    ∙ load_there args.words.now args.i (record { long = c.if-words-ne-NETWORK_WORDS.false; unit = c.if-i-ge-UNITS.false })
    (lent args.words.now (args.i * unit_words) unit_words refl)
