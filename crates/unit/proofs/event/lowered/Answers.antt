-- `unit::event::lowered` meets its contract, by what `min` says.
use Prim.Native.Nat.{ℕ}
use mathlib.Core.Path.{◌≡◌, sym, ap, ◌∙◌}
use Rattle.unit.specs.Reacted.{lowered_to}
use Rattle.unit.specs.declared.event.Lowering.{Lowering}
use Rattle.unit.proofs.event.lowered.Goals as goal

-- In an arm of the `match` it is known which way it is.
by_way : {how way : Lowering} (feasible old new : ℕ) {r : ℕ} → how ≡ way → r ≡ lowered_to way feasible old new → r ≡ lowered_to how feasible old new
by_way feasible old new e er = er ∙ ap (λ (h : Lowering). lowered_to h feasible old new) (sym e)

pub returns-in-Passive : goal.returns-in-Passive
returns-in-Passive c =
    let args = c.args in
    by_way args.feasible args.old args.new c.in-Passive.is c.min.ensures

pub returns-in-Released : goal.returns-in-Released
returns-in-Released c =
    let args = c.args in
    by_way args.feasible args.old args.new c.in-Released.is c.min-in-Released.ensures
