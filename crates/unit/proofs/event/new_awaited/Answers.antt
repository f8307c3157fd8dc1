-- `unit::event::new_awaited` meets its contract. The invariant: the array holds the waits passed, and zeros.
use native.Mathlib.Omega.{arith}
use mathlib.Core.Path.{◌≡◌, refl, ◌∙◌}
use borrow.Author.Rules.{rules}
use lib.Dec.{eqb}
use Rattle.std.specs.Prelude.{unwrap_or}
use Rattle.ground.specs.Limits.{unit_limit}
use Rattle.ground.proofs.Filling.{filling, filled_all}
use Rattle.unit.proofs.LaidMessages.{is_given}
use Rattle.unit.proofs.event.new_awaited.Goals as goal

pub loop-k-init : goal.loop-k-init
loop-k-init c = (search rules, refl)

pub loop-k-preserved : goal.loop-k-preserved
loop-k-preserved c =
    let here = c.loop-k in
    let asked : c.eq.result ≡ eqb here.k (unwrap_or c.args.new c.args.count) =
    c.eq.ensures ∙ is_given c.args.new c.args.count here.k c.loop-k-test.true in
    (search rules, filling unit_limit here.k _ here.invariant.1 (rw asked at c.wait.ensures) (omega arith))

pub returns : goal.returns
returns c = filled_all unit_limit c.loop-k.k c.args.count _ c.loop-k.invariant.1 (omega arith)
