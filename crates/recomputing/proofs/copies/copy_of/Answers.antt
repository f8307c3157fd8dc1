-- `recomputing::copies::copy_of` meets its contract: zeros where there is no row, else its stretch of all laid over them.
use Prim.Native.Nat.{◌*◌, ◌<◌}
use native.Mathlib.Omega.{arith}
use mathlib.Core.Path.{◌≡◌, refl, sym, ◌∙◌}
use borrow.Author.Tests.{le-ltb}
use lib.ListN.{length}
use Rattle.ground.specs.Limits.{unit_limit}
use Rattle.slices.proofs.Stretches.{lent, copied}
use Rattle.recomputing.specs.Flat.{flat_length}
use Rattle.recomputing.proofs.CopiedRows.{row_none, row_whole}
use Rattle.recomputing.proofs.copies.copy_of.Goals as goal

pub returns-then-k-ge-UNITS : goal.returns-then-k-ge-UNITS
returns-then-k-ge-UNITS c = rw (le-ltb _ _ c.if-k-ge-UNITS.true) refl

pub returns-then-copies-ne-COPIES : goal.returns-then-copies-ne-COPIES
returns-then-copies-ne-COPIES c =
    let args = c.args in
    sym (row_none args.copies.now args.k c.if-copies-ne-COPIES.true)

pub returns : goal.returns
returns c =
    let args = c.args in
    let copies = args.copies.now in
    let from = args.k * unit_limit in
    let below : args.k < unit_limit = c.if-k-ge-UNITS.false in
    let long : length copies ≡ flat_length = c.if-copies-ne-COPIES.false in
    c.lay_over.ensures
    ∙ copied copies from unit_limit (omega arith) (lent copies from unit_limit refl)
    ∙ sym (row_whole copies args.k long below)
