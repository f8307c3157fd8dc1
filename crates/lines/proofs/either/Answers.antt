-- `lines::either` meets its contract: the word is tested, and then how many decimals follow.
use mathlib.Core.Path.{sym, ◌∙◌}
use borrow.Author.Tests.{eq-eqb, ne_eqb}
use Rattle.slices.proofs.Alike.{alike}
use Rattle.lines.specs.Following.{either_of}
use Rattle.lines.proofs.either.Goals as goal
use Rattle.lines.proofs.either.Goals.{else-eq-via-then-eq+else-count-k, else-eq-via-else-eq}

pub returns-then-count-k : goal.returns-then-count-k
unfolding either_of
returns-then-count-k c =
    let tested = c.eq.ensures ∙ alike c.args.word.now c.args.name.now in
    simp (sym tested ∙ c.if-eq.true, eq-eqb _ _ c.if-count-k.true)

pub returns : goal.returns
unfolding either_of
returns c =
    let tested = c.eq.ensures ∙ alike c.args.word.now c.args.name.now in
    elim c.else-eq.branch [
      | else-eq-via-then-eq+else-count-k w ↦ simp (sym tested ∙ w.if-eq.true, ne_eqb _ _ w.if-count-k.false)
      | else-eq-via-else-eq w ↦ simp (sym tested ∙ w.if-eq.false)
    ]
