-- `paths::tracer::chosen` meets its contract: the place is the choice modulo the number, which is not 0.
use Prim.Native.Nat.{ℕ, ◌%◌}
use native.Mathlib.Nat.{mod-lt}
use mathlib.Core.Path.{ap, ◌∙◌}
use Rattle.ground.specs.Rows.{at}
use Rattle.paths.specs.Tracing.{units_in}
use Rattle.paths.proofs.tracer.chosen.Goals as goal

pub unit_at-requires : goal.unit_at-requires
unit_at-requires c =
    (c.requires.0, rw c.number_in.ensures (mod-lt c.args.choice c.requires.1))

pub returns : goal.returns
returns c =
    let args = c.args in
    c.unit_at.ensures
    ∙ ap (λ (n : ℕ). at (units_in args.count args.set) (args.choice % n)) c.number_in.ensures
