-- `fitness::fit::Measured::fit_sender` meets its contract: its tests are the definition's.
use Prim.Native.Nat.{◌+◌, ◌-◌, ◌*◌}
use native.Mathlib.Omega.{arith}
use mathlib.Core.Path.{◌≡◌, sym, ap, ap₂, ◌∙◌}
use Rattle.ground.specs.Limits.{unit_limit}
use Rattle.rules.specs.Tables.{queue_bytes, queue_at, part}
use Rattle.slices.specs.Slices.{is_nothing}
use Rattle.fitness.specs.PartsFit.{fit_sender}
use Rattle.fitness.proofs.fit.Measured.fit_sender.Goals as goal

pub returns-then-fit_pairs : goal.returns-then-fit_pairs
unfolding fit_sender
returns-then-fit_pairs c =
    let args = c.args in
    let place : c.begins-from.result ≡ queue_at args.a args.self.now.count = omega (arith, c.requires) in
    let left : args.a * (unit_limit * queue_bytes) + unit_limit * queue_bytes - c.begins-from.result
    ≡ (unit_limit - args.self.now.count) * queue_bytes =
    omega (arith, c.requires) in
    c.is_nothing.ensures
    ∙ ap is_nothing (ap₂ (part args.self.now.queues.now) place left)
    ∙ sym (rw (sym c.fit_pairs.ensures ∙ c.if-fit_pairs.true))

pub returns-else-fit_pairs : goal.returns-else-fit_pairs
unfolding fit_sender
returns-else-fit_pairs c =
    c.if-fit_pairs.false ∙ sym (rw (sym c.fit_pairs.ensures ∙ c.if-fit_pairs.false))
