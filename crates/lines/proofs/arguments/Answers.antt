-- `lines::arguments` meets its contract. The invariant: `count` decimals are read, and `used` bytes.
use native.Mathlib.Omega.{arith}
use mathlib.Core.Path.{sym, ◌∙◌}
use borrow.Author.Rules.{rules}
use lib.ListN.{length-set, length-take, length-drop}
use Rattle.lines.proofs.Reading.{read_none, read_more, told_all, told_many, told_bad}
use Rattle.lines.proofs.arguments.Goals as goal

pub loop-used-init : goal.loop-used-init
loop-used-init c = (search rules, search rules, read_none _ _)

pub returns-then-count-eq-ARGUMENTS : goal.returns-then-count-eq-ARGUMENTS
returns-then-count-eq-ARGUMENTS c =
    λ k h. told_many _ _ _ _ c.loop-used.invariant.2 c.loop-used-test.true c.if-count-eq-ARGUMENTS.true k h

pub slice_bounds-word-end : goal.slice_bounds-word-end
slice_bounds-word-end c = simp (length-take, length-drop) (omega arith)

pub returns-then-not-is_decimal : goal.returns-then-not-is_decimal
returns-then-not-is_decimal c =
    λ k h. told_bad _ _ _ _ c.loop-used.invariant.2 c.loop-used-test.true _ c.word_end-end.ensures.end
    (sym c.is_decimal.ensures ∙ c.if-not-is_decimal.true) k h

pub value-number-requires : goal.value-number-requires
value-number-requires c = sym c.is_decimal.ensures ∙ c.if-not-is_decimal.false

pub loop-used-preserved : goal.loop-used-preserved
loop-used-preserved c =
    let here = c.loop-used in (
      omega (arith, simp (length-take, length-drop) at c.word_end-end.ensures.inside),
      simp length-set here.invariant.1,
      rw c.value-number.ensures
          (read_more _ _ _ _ here.invariant.2 c.loop-used-test.true _ c.word_end-end.ensures.end
          (sym c.is_decimal.ensures ∙ c.if-not-is_decimal.false) (omega arith) (omega arith)),
    )

pub returns : goal.returns
returns c =
    let here = c.loop-used in
    record { counted = told_all _ _ _ _ here.invariant.2 (search rules); listed = λ i l h. here.invariant.2.listed i l }
