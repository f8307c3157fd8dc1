-- `lines::is_decimal` meets its contract: each return rewrites the definition by the tests that led there.
use borrow.Author.Tests.{eq-eqb, ne_eqb, le-leb, lt-leb}
use Rattle.ground.proofs.Tests.{and_no}
use Rattle.lines.specs.Words.{is_decimal}
use Rattle.lines.proofs.is_decimal.Goals as goal
use Rattle.lines.proofs.is_decimal.Goals.{then-word-ne1+else-word-eq48, else-word-ne1}

pub returns-then-word-lt1 : goal.returns-then-word-lt1
unfolding is_decimal
returns-then-word-lt1 c = simp (lt-leb _ _ c.if-word-lt1.true)

pub returns-then-word-gt-DIGITS : goal.returns-then-word-gt-DIGITS
unfolding is_decimal
returns-then-word-gt-DIGITS c = simp (lt-leb _ _ c.if-word-gt-DIGITS.true, and_no)

pub returns-then-word-eq48 : goal.returns-then-word-eq48
unfolding is_decimal
returns-then-word-eq48 c = simp (ne_eqb _ _ c.if-word-ne1.true, eq-eqb _ _ c.if-word-eq48.true, and_no)

pub returns : goal.returns
unfolding is_decimal
returns c =
    simp (le-leb _ _ c.if-word-lt1.false, le-leb _ _ c.if-word-gt-DIGITS.false)
    (elim c.if-word-ne1.branch [
      | then-word-ne1+else-word-eq48 w ↦
          simp (ne_eqb _ _ w.if-word-ne1.true, ne_eqb _ _ w.if-word-eq48.false) c.are_digits.ensures
      | else-word-ne1 w ↦ simp (eq-eqb _ _ w.if-word-ne1.false) c.are_digits.ensures
    ])
