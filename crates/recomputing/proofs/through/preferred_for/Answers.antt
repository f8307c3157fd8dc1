-- `recomputing::through::preferred_for` meets its contract. The invariant: of the neighbours passed, the least sum and the lowest number that has it.
use native.Mathlib.Omega.{arith}
use mathlib.Core.Path.{◌≡◌, sym, ◌∙◌}
use borrow.Author.Rules.{rules}
use Rattle.std.specs.Prelude.{unwrap_or}
use Rattle.tree.specs.Recompute.{sum_through}
use Rattle.tree.proofs.Cells.{preferred_at}
use Rattle.recomputing.proofs.Scanning.{Scanned, scan_none, scan_less, scan_more, scan_done}
use Rattle.recomputing.proofs.through.preferred_for.Goals as goal
use Rattle.recomputing.proofs.through.preferred_for.Goals.{then-sum-nearest, else-sum-nearest}

pub loop-k-init : goal.loop-k-init
loop-k-init c = record { below = search rules; scanned = scan_none }

pub loop-k-preserved : goal.loop-k-preserved
loop-k-preserved c =
    let here = c.loop-k in
    let sum = c.plus-sum.ensures in
    let scanned = here.invariant.scanned in
    elim c.if-sum-nearest.branch [
      | then-sum-nearest w ↦ record {
        below = rw w.best-is c.loop-k-test.true;
        scanned = rw (w.nearest-is, w.best-is, sum) (scan_less scanned (omega arith));
      }
      | else-sum-nearest w ↦ record {
        below = rw w.best-is here.invariant.below;
        scanned = rw (w.nearest-is, w.best-is) (scan_more scanned (omega arith));
      }
    ]

pub returns : goal.returns
returns c =
    let args = c.args in
    let here = c.loop-k in
    let all : here.k ≡ args.count = omega arith in
    let scanned : Scanned args.count (λ i. sum_through args.costs args.through i args.j) args.count here.nearest (unwrap_or here.best args.count) =
    rw all at here.invariant.scanned in
    record {
      below = here.invariant.below;
      preferred = scan_done scanned ∙ sym (preferred_at args.count args.costs args.through args.j (omega arith));
    }
