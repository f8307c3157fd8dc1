-- `texts::row::put_joined` meets its contract. The invariant: the successors below k are put, and the rest is the set
-- halved k times.
use Prim.Native.Nat.{ℕ, ◌/◌}
use native.Mathlib.Nat.{div-one}
use native.Mathlib.Omega.{arith}
use mathlib.Core.Path.{◌≡◌, refl, sym, ap, ◌∙◌}
use borrow.Author.Rules.{rules}
use Rattle.ground.specs.Rows.{is_in}
use Rattle.ground.proofs.Bits.{halved}
use Rattle.texts.specs.Printed.{joined_to}
use Rattle.slices.proofs.Putting.{put_none, put_as, put_then}
use Rattle.texts.proofs.Successors.{joined_more, some_more}
use Rattle.ground.proofs.Clauses.{heard_used_out_some, told_used_out_some}
use Rattle.texts.proofs.row.put_joined.Goals as goal

pub loop-k-init : goal.loop-k-init
unfolding joined_to
loop-k-init c = (sym (div-one _), refl, put_none _ _, refl)

pub loop-k-preserved : goal.loop-k-preserved
loop-k-preserved c =
    let put = (heard_used_out_some c.put_member-then.ensures) in
    let here = c.loop-k in
    let set = c.args.set in
    let told = rw here.invariant.0 at put in (
      ap (λ (rest : ℕ). rest / 2) here.invariant.0 ∙ halved set here.k,
      search rules,
      put_as _ _ (joined_more here.k (is_in set) here.then.some here.invariant.3)
          (put_then _ _ _ _ here.invariant.2 (told.0, told.1.0)),
      told.1.1 ∙ some_more here.k (is_in set) here.then.some here.invariant.3,
    )

pub shape_of-out : goal.shape_of-out
shape_of-out c = c.loop-k.invariant.1

pub returns : goal.returns
returns c =
    let here = c.loop-k in
    let all : here.k ≡ c.args.count = omega arith in
    told_used_out_some (rw (← all) (here.invariant.2.0, (here.invariant.2.1, here.invariant.3)))
