-- `recomputing::heads::is_tree` meets its contract: the chain asks the definition's test of every unit.
use mathlib.Core.Bool.{Bool}
use mathlib.Core.List.{List}
use mathlib.Core.Path.{◌≡◌, refl, sym, ◌∙◌}
use Prim.Native.Nat.{ℕ}
use borrow.Author.Rules.{rules}
use borrow.Author.Tests.{tests, eq-eqb}
use lib.ListN.{length}
use Rattle.ground.specs.Rows.{every}
use Rattle.tree.specs.Tree.{legal_entry, is_tree}
use Rattle.ground.proofs.Chains.{all_below}
use Rattle.recomputing.proofs.heads.is_tree.Goals as goal

-- The row has as many places as units, so only its entries count.
only_entries : (tree : List ℕ) (root : ℕ) (b : Bool) → b ≡ every (length tree) (legal_entry (length tree) root tree)
    → b ≡ is_tree (length tree) root tree
unfolding is_tree
only_entries tree root b e = e ∙ sym (rw (eq-eqb (length tree) (length tree) refl) refl)

pub returns : goal.returns
returns c =
    let tree = c.args.tree.now in
    only_entries tree c.args.root _
    (all_below (legal_entry (length tree) c.args.root tree) (length tree) _ _ _ c.all.ensures.ran
    (λ x b q k. search (rules, tests)))
