-- `recomputing::successors::set_over` meets its contract. The invariant: the bit is 2 ^ k, and the set has the successors below k.
use Prim.Native.Nat.{◌+◌, ◌≤◌}
use native.Mathlib.Nat.{pow-le-pow_right}
use native.Mathlib.Omega.{arith}
use mathlib.Core.Path.{ap₂, ◌≡◌, refl, ◌∙◌}
use borrow.Author.Tests.{lt-ltb, le-ltb}
use Rattle.ground.specs.Limits.{unit_limit}
use Rattle.ground.proofs.Bits.{twice, bits_below, bits_in, bits_out}
use Rattle.recomputing.proofs.successors.set_over.Goals as goal
use Rattle.recomputing.proofs.successors.set_over.Goals.{then-through-k, else-through-k}
use Rattle.recomputing.proofs.successors.set_over.Invariants.{is_below}

pub overflow_add-set : goal.overflow_add-set
overflow_add-set c =
    let here = c.loop-k in
    let high : here.k ≤ unit_limit = omega arith in
    omega (
      arith,
      bits_below here.k (is_below c.args.through c.args.feasible c.args.j),
      pow-le-pow_right {n = 2} (omega arith) high,
    )

pub overflow_mul-bit : goal.overflow_mul-bit
overflow_mul-bit c =
    let here = c.loop-k in
    let high : here.k ≤ unit_limit = omega arith in
    omega (arith, pow-le-pow_right {n = 2} (omega arith) high)

pub loop-k-preserved : goal.loop-k-preserved
loop-k-preserved c =
    let here = c.loop-k in
    let args = c.args in
    let below = is_below args.through args.feasible args.j in (
      rw here.invariant.0 (twice here.k),
      elim c.if-through-k.branch [
        | then-through-k w ↦
            w.set-is ∙ ap₂ ◌+◌ here.invariant.1 here.invariant.0 ∙ bits_in here.k below (lt-ltb _ _ w.if-through-k.true)
        | else-through-k w ↦ w.set-is ∙ here.invariant.1 ∙ bits_out here.k below (le-ltb _ _ w.if-through-k.false)
      ],
    )

pub returns : goal.returns
returns c =
    let all : c.loop-k.k ≡ c.args.count = omega arith in
    rw (c.loop-k.invariant.1, all) refl
