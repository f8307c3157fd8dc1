-- `paths::tracer::unit_at` meets its contract. The invariant: `Passed`, and at most as many were met as the place says.
use Prim.Native.Nat.{ℕ, ◌+◌, ◌%◌}
use native.Mathlib.Omega.{arith}
use mathlib.Core.Path.{◌≡◌, ap, ◌∙◌}
use lib.ListN.{length}
use Rattle.ground.specs.Rows.{at}
use Rattle.paths.specs.Tracing.{units_in}
use Rattle.paths.proofs.Sets.{none_passed, one_passed, met_at}
use Rattle.paths.proofs.tracer.unit_at.Goals as goal
use Rattle.paths.proofs.tracer.unit_at.Goals.{then-rest-eq1+else-before-place, else-rest-eq1}

pub loop-k-init : goal.loop-k-init
loop-k-init c = (omega arith, omega arith, none_passed c.args.set)

pub returns-then-before-place : goal.returns-then-before-place
returns-then-before-place c =
    met_at c.loop-k.invariant.2 c.args.count (omega arith) (omega arith)
    ∙ ap (at (units_in c.args.count c.args.set)) c.if-before-place.true

pub overflow_add-before : goal.overflow_add-before
overflow_add-before c = omega arith

pub loop-k-preserved : goal.loop-k-preserved
loop-k-preserved c =
    let turn = c.loop-k in
    let next : c.if-rest-eq1.before ≡ turn.before + turn.rest % 2 =
    elim c.if-rest-eq1.branch [ then-rest-eq1+else-before-place w ↦ omega arith | else-rest-eq1 w ↦ omega arith ] in (
      omega arith,
      elim c.if-rest-eq1.branch [ then-rest-eq1+else-before-place w ↦ omega arith | else-rest-eq1 w ↦ omega arith ],
      one_passed turn.invariant.2 next,
    )

pub returns : goal.returns
returns c =
    let all : c.loop-k.k ≡ c.args.count = omega arith in
    let many : c.loop-k.before ≡ length (units_in c.args.count c.args.set) =
    c.loop-k.invariant.2.met ∙ ap (λ (n : ℕ). length (units_in n c.args.set)) all in
    absurd (omega (arith, c.requires.1))
