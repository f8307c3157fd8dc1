-- `paths::tracer::number_in` meets its contract. The invariant: `Passed`.
use native.Mathlib.Omega.{arith}
use mathlib.Core.Path.{◌≡◌, refl}
use Rattle.paths.proofs.Sets.{none_passed, one_passed}
use Rattle.paths.proofs.tracer.number_in.Goals as goal

pub loop-init : goal.loop-init
loop-init c = (omega arith, none_passed c.args.set)

pub overflow_cast-number : goal.overflow_cast-number
overflow_cast-number c = omega arith

pub overflow_add-number : goal.overflow_add-number
overflow_add-number c = omega arith

pub loop-preserved : goal.loop-preserved
loop-preserved c = (omega arith, one_passed c.loop.invariant.1 refl)

pub returns : goal.returns
returns c =
    let all : c.loop.counter ≡ c.args.count = omega arith in
    rw (← all) c.loop.invariant.1.met
