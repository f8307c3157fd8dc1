-- `recomputing::copies::with_copy` meets its contract: the row is laid over the stretch of all that is its own.
use Prim.Native.Nat.{◌*◌, ◌<◌}
use native.Mathlib.Omega.{arith}
use mathlib.Core.Path.{◌≡◌, refl, sym, ◌∙◌}
use borrow.Author.Rules.{rules}
use borrow.Author.Tests.{lt-ltb, le-ltb}
use lib.ListN.{length}
use Rattle.ground.specs.Limits.{unit_limit}
use Rattle.ground.proofs.Tests.{if_true, if_false}
use Rattle.slices.proofs.Stretches.{replaced}
use Rattle.recomputing.specs.Flat.{flat_length}
use Rattle.recomputing.proofs.copies.with_copy.Statement.{statement}
use Rattle.recomputing.proofs.copies.with_copy.Tie as tie

-- The copies have a row for each unit, and the other is one.
flat : (c : tie.Start) → length c.args.copies ≡ flat_length
flat c = search rules

wide : (c : tie.Start) → length c.args.row ≡ unit_limit
wide c = search rules

returns : tie.Need-returns-then-k-ge-UNITS
returns c = sym (if_false _ _ _ (le-ltb _ _ c.if-k-ge-UNITS.true))

returns_2 : tie.Need-returns
returns_2 c =
    let laid = c.before in
    let start = laid.before.before.before.before in
    let below : start.args.k < unit_limit = laid.before.before.before.if-k-ge-UNITS.false in
    laid.lay_over.ensures
    ∙ replaced start.args.copies (start.args.k * unit_limit) unit_limit (omega (arith, flat start)) start.args.row
    (wide start) refl
    ∙ sym (if_true _ _ _ (lt-ltb _ _ below))

pub with_copy_spec : {M : Type 1} → statement M
with_copy_spec =
    tie.close (tie.spec returns (λ c. search rules) (λ c. search rules) (λ c. search rules) (λ c. search rules) returns_2)
