-- `state::questions::fresh` meets its contract. The tests are the definition's, in its order; what is laid is the fresh unit's
-- table by `fresh_laid`.
use mathlib.Core.Bool.{false}
use mathlib.Core.Path.{◌≡◌, ◌∙◌}
use borrow.Author.Tests.{eq-eqb, ne_eqb, lt-ltb, le-ltb}
use Rattle.ground.specs.Limits.{legal_count}
use Rattle.rules.specs.Hub.{fresh_table_answer, fresh_table}
use Rattle.rules.specs.Tables.{unit_words}
use Rattle.ground.proofs.Limits.{count_legal, count_low, count_high}
use Rattle.state.proofs.Fresh.{fresh_laid}
use Rattle.state.proofs.questions.fresh.Goals as goal
use Rattle.state.proofs.questions.fresh.Goals.{then-count-lt2-via-then-count-lt2, then-count-lt2-via-else-count-lt2+then-count}

pub returns-then-count-lt2 : goal.returns-then-count-lt2
unfolding fresh_table_answer fresh_table
returns-then-count-lt2 c =
    let none : legal_count c.args.count ≡ false =
    elim c.then-count-lt2.branch [
      | then-count-lt2-via-then-count-lt2 w ↦ count_low _ w.if-count-lt2.true
      | then-count-lt2-via-else-count-lt2+then-count w ↦ count_high _ w.if-count.true
    ] in
    record { answer = rw none; table = rw none }

pub returns-then-table-ne-UNIT_WORDS : goal.returns-then-table-ne-UNIT_WORDS
unfolding fresh_table_answer fresh_table
returns-then-table-ne-UNIT_WORDS c =
    let legal = count_legal c.args.count c.if-count-lt2.false c.if-count.false in
    let length = ne_eqb _ unit_words c.if-table-ne-UNIT_WORDS.true in
    record { answer = rw (legal, length); table = rw (legal, length) }

pub returns-then-count-me : goal.returns-then-count-me
unfolding fresh_table_answer fresh_table
returns-then-count-me c =
    let legal = count_legal c.args.count c.if-count-lt2.false c.if-count.false in
    let length = eq-eqb _ unit_words c.if-table-ne-UNIT_WORDS.false in
    let own = le-ltb _ _ c.if-count-me.true in
    record { answer = rw (legal, length, own); table = rw (legal, length, own) }

pub returns : goal.returns
unfolding fresh_table_answer fresh_table
returns c =
    let args = c.args in
    let legal = count_legal args.count c.if-count-lt2.false c.if-count.false in
    let length = eq-eqb _ unit_words c.if-table-ne-UNIT_WORDS.false in
    let own = lt-ltb _ _ c.if-count-me.false in
    record {
      answer = rw (legal, length, own);
      table =
          rw (legal, length, own)
          (c.lay.ensures ∙ fresh_laid args.count args.me c.if-count.false _ c.fresh_feasible.ensures);
    }
