-- `texts::text::put_long` meets its contract. The invariant: the digits behind `first` are laid, and `rest` comes before.
use native.Mathlib.Omega.{arith}
use borrow.Author.Rules.{rules}
use lib.ListN.{length-set}
use Rattle.texts.proofs.Digits.{begun_none, begun_place, begun_more, begun_all}
use Rattle.slices.proofs.Putting.{put_as}
use Rattle.ground.proofs.Clauses.{heard_answer_out, told_answer_out}
use Rattle.texts.proofs.text.put_long.Goals as goal

pub loop-rest-init : goal.loop-rest-init
loop-rest-init c = (search rules, search rules, begun_none _ _ (omega arith) (search rules))

pub overflow_sub-first-in-loop-rest : goal.overflow_sub-first-in-loop-rest
overflow_sub-first-in-loop-rest c = begun_place _ _ _ _ c.loop-rest.invariant.2 c.loop-rest-test.true

pub loop-rest-preserved : goal.loop-rest-preserved
loop-rest-preserved c =
    let here = c.loop-rest in (
      search rules,
      simp length-set here.invariant.1,
      rw c.digit-byte.ensures
          (begun_more _ _ _ _ here.invariant.2 (omega arith) c.loop-rest-test.true),
    )

pub slice_bounds-put_text-end : goal.slice_bounds-put_text-end
slice_bounds-put_text-end c = simp length-set (omega arith)

pub returns : goal.returns
returns c =
    let here = c.loop-rest in
    told_answer_out (put_as _ _
    (begun_all _ _ _ _ _ here.invariant.2 here.invariant.0 here.invariant.1 c.loop-rest-test.false c.digit-byte-2.ensures)
    (heard_answer_out c.put_text.ensures))
