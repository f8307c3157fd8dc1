-- `listing::put_unit` meets its contract. The invariant: the lines of the destinations below j are put.
use native.Mathlib.Omega.{arith}
use mathlib.Core.Path.{◌≡◌, refl, sym}
use borrow.Author.Rules.{rules}
use Rattle.ground.proofs.Joined.{joined_more}
use Rattle.slices.proofs.Putting.{put_none, put_as, put_then}
use Rattle.listing.specs.Showing.{way_to, ways_to, row_lines}
use Rattle.ground.proofs.Clauses.{heard_answer_out, told_answer_out}
use Rattle.listing.proofs.put_unit.Goals as goal

pub loop-j-init : goal.loop-j-init
unfolding ways_to
loop-j-init c = (search rules, refl, put_none _ _)

pub loop-j-preserved : goal.loop-j-preserved
unfolding ways_to
loop-j-preserved c =
    let here = c.loop-j in
    let args = c.args in (
      search rules,
      search rules,
      put_as _ _ (sym (joined_more here.j (way_to args.unit args.i)))
          (put_then _ _ _ _ here.invariant.2 (heard_answer_out c.put_way-then.ensures)),
    )

pub returns : goal.returns
unfolding row_lines
returns c =
    let here = c.loop-j in
    let all : here.j ≡ c.args.unit.count = omega arith in
    told_answer_out (put_then _ _ _ _ (heard_answer_out c.put_state-then.ensures) (rw all at here.invariant.2))
