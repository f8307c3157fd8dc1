-- `fitness::fit::fit_place_in` meets its contract: the place as it is lent is the place.
use Prim.Native.Nat.{◌*◌}
use native.Mathlib.Omega.{arith}
use mathlib.Core.Path.{refl, ap, ◌∙◌}
use lib.ListN.{length}
use Rattle.ground.specs.Limits.{message_room}
use Rattle.rules.proofs.Laid.{part_length}
use Rattle.slices.proofs.Stretches.{lent}
use Rattle.fitness.specs.PartsFit.{fit_place}
use Rattle.fitness.proofs.fit.fit_place_in.Goals as goal

pub fit_place-requires : goal.fit_place-requires
fit_place-requires c =
    let args = c.args in (
      c.requires.0,
      c.requires.1,
      ap length (lent args.queue.now (args.i * message_room) message_room refl)
          ∙ part_length args.queue.now (args.i * message_room) message_room (omega (arith, c.requires)),
    )

pub returns : goal.returns
returns c =
    let args = c.args in
    c.fit_place.ensures
    ∙ ap (fit_place args.count args.sender) (lent args.queue.now (args.i * message_room) message_room refl)
