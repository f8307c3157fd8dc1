-- `state::fit::fit_link` meets its contract: each return is the law of Fitness.antt on that case of the rules' test.
use Prim.Native.Nat.{ℕ}
use mathlib.Core.List.{List}
use mathlib.Core.Path.{◌≡◌, sym, ◌∙◌}
use borrow.Author.Rules.{rules}
use lib.ListN.{length}
use lib.Seq.{length-take-le}
use Rattle.ground.specs.Rows.{same, zeros}
use Rattle.tree.specs.Tree.{is_tree}
use Rattle.recomputing.specs.Flat.{flat_length}
use Rattle.state.proofs.Fitness.{row_lent, down_wait, down_copy, up_self, up_high, up_wait, up_copy}
use Rattle.state.proofs.fit.fit_link.Goals as goal

pub returns-then-awaited-k-ne0 : goal.returns-then-awaited-k-ne0
returns-then-awaited-k-ne0 c =
    sym (down_wait c.args.unit c.args.k c.requires.1 c.if-costs-k-eq0.true c.if-awaited-k-ne0.true)

pub slice_bounds-is_nothing-end : goal.slice_bounds-is_nothing-end
slice_bounds-is_nothing-end c = sym (length-take-le _ _ (search rules))

pub returns-then-costs-k-eq0 : goal.returns-then-costs-k-eq0
returns-then-costs-k-eq0 c =
    let unit = c.args.unit in
    let long : length unit.copies ≡ flat_length = search rules in
    c.is_nothing.ensures
    ∙ row_lent unit.count unit.copies c.args.k c.requires.1 c.requires.0 long c.copy_of-copy.ensures
    (λ (n : ℕ) (copy : List ℕ). same copy (zeros n))
    ∙ sym (down_copy unit c.args.k c.requires.1 c.if-costs-k-eq0.true c.if-awaited-k-ne0.false)

pub returns-then-k-unit : goal.returns-then-k-unit
returns-then-k-unit c =
    sym (up_self c.args.unit c.args.k c.requires.1 c.if-costs-k-eq0.false c.if-k-unit.true)

pub returns-then-costs-k-gt-HIGHEST_COST : goal.returns-then-costs-k-gt-HIGHEST_COST
returns-then-costs-k-gt-HIGHEST_COST c =
    sym
    (up_high c.args.unit c.args.k c.requires.1 c.if-costs-k-eq0.false c.if-costs-k-gt-HIGHEST_COST.true)

pub returns-then-awaited-k-gt1 : goal.returns-then-awaited-k-gt1
returns-then-awaited-k-gt1 c =
    sym
    (up_wait c.args.unit c.args.k c.requires.1 c.if-costs-k-eq0.false c.if-awaited-k-gt1.true)

pub slice_bounds-is_tree-end : goal.slice_bounds-is_tree-end
slice_bounds-is_tree-end c = sym (length-take-le _ _ (search rules))

pub returns : goal.returns
returns c =
    let unit = c.args.unit in
    let long : length unit.copies ≡ flat_length = search rules in
    c.is_tree.ensures
    ∙ row_lent unit.count unit.copies c.args.k c.requires.1 c.requires.0 long c.copy_of-copy.ensures
    (λ (n : ℕ) (copy : List ℕ). is_tree n c.args.k copy)
    ∙ sym
    (up_copy unit c.args.k c.requires.1
    c.if-costs-k-eq0.false
    c.if-k-unit.false
    c.if-costs-k-gt-HIGHEST_COST.false
    c.if-awaited-k-gt1.false)
