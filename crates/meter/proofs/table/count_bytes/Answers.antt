-- `meter::table::count_bytes` meets its contract: the figure's two numbers are laid over the old ones.
use Prim.Native.Nat.{◌+◌}
use native.Mathlib.Omega.{arith}
use mathlib.Core.Path.{ap₂, ◌∙◌}
use Rattle.meter.proofs.ReadFrames.{bytes_counted}
use Rattle.meter.proofs.table.count_bytes.Goals as goal

pub returns : goal.returns
returns c =
    let args = c.args in
    c.lay_over.ensures
    ∙ bytes_counted args.meter.now c.requires.0 (λ i. grind arith)
    args.sum args.size _ _ c.start_of-from.ensures
    (ap₂ ◌+◌ c.stored.ensures c.from.ensures)
