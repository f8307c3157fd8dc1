-- `state::fit::fit_unit` meets its contract: each return is the law of Fitness.antt on what was tested last.
use Prim.Native.Nat.{ℕ}
use native.Mathlib.Omega.{arith}
use mathlib.Core.Path.{◌≡◌, sym, ap, ◌∙◌}
use borrow.Author.Rules.{rules}
use lib.ListN.{take, length}
use lib.Seq.{length-take-le}
use Rattle.ground.specs.Limits.{unit_limit}
use Rattle.tree.specs.Tree.{is_tree}
use Rattle.state.specs.Holding.{unit_of}
use Rattle.state.proofs.Fitness.{few_units, no-unit, bad_link, bad_tree, by_feasible}
use Rattle.state.proofs.fit.fit_unit.Statement.{statement}
use Rattle.state.proofs.fit.fit_unit.Tie as tie

-- The part of the tree that is lent has a place for each unit.
tree_long : (c : tie.Start) → length (take c.args.unit.count c.args.unit.tree) ≡ c.args.unit.count
tree_long c =
    let long : length c.args.unit.tree ≡ unit_limit = search rules in
    length-take-le c.args.unit.count c.args.unit.tree (omega arith)

-- The function's entry, as the place after the tree's test sees it.
abbrev start : tie.After-is_tree → tie.Start
start c = c.before.before.before.before.before.before.before

-- The tree's test is the rules'.
tree_tested : (c : tie.After-is_tree)
    → is_tree (start c).args.unit.count (start c).args.unit.me (unit_of (start c).args.unit).tree
    ≡ c.is_tree.result
tree_tested c =
    let unit = (start c).args.unit in
    sym
    (c.is_tree.ensures
    ∙ ap (λ (n : ℕ). is_tree n unit.me (take unit.count unit.tree)) (tree_long (start c)))

returns : tie.Need-returns-then-count-lt2
returns c = sym (few_units (unit_of c.args.unit) c.if-count-lt2.true)

returns_2 : tie.Need-returns-then-count-me
returns_2 c = sym (no-unit (unit_of c.args.unit) c.if-count-me.true)

returns_3 : tie.Need-returns-then-not-fit_links
returns_3 c =
    let unit = unit_of c.args.unit in
    sym (bad_link unit (sym c.fit_links.ensures ∙ c.if-not-fit_links.true))

array_share_prefix_tree : tie.Need-slice_bounds-tree-end
array_share_prefix_tree c =
    let long : length c.args.unit.tree ≡ unit_limit = search rules in
    omega arith

slice_aggregate_is_tree : tie.Need-slice_bounds-is_tree-end
slice_aggregate_is_tree c = sym (tree_long c.before.before.before.before.before.before)

returns_4 : tie.Need-returns-then-not-is_tree
returns_4 c =
    let unit = unit_of (start c.before).args.unit in
    sym (bad_tree unit (tree_tested c.before ∙ c.if-not-is_tree.true))

returns_5 : tie.Need-returns
returns_5 c =
    let tested = c.before.before in
    let unit = unit_of (start tested).args.unit in
    c.fit_feasible.ensures
    ∙ sym
    (by_feasible unit
    tested.if-count-lt2.false
    (start tested).requires
    tested.if-count-me.false
    (sym tested.fit_links.ensures ∙ tested.if-not-fit_links.false)
    (tree_tested tested ∙ c.if-not-is_tree.false))

pub fit_unit_spec : {M : Type 1} → statement M
fit_unit_spec =
    tie.close
    (tie.spec
    returns
    returns_2
    (λ c. search rules)
    returns_3
    array_share_prefix_tree
    slice_aggregate_is_tree
    (λ c. search rules)
    returns_4
    (λ c. search rules)
    returns_5)
