-- The recomputed tree has a place for each unit; and where each cost is 0 or a link's and each neighbour's copy is a tree,
-- it is a tree.
use Prim.Native.Nat.{ℕ, ◌≤◌, ◌<◌}
use mathlib.Core.Bool.{true}
use mathlib.Core.List.{List}
use mathlib.Core.Logic.{◌≢◌}
use mathlib.Core.Path.{◌≡◌}
use lib.ListN.{length}
use Rattle.ground.specs.Limits.{highest_cost}
use Rattle.ground.specs.Rows.{at}
use Rattle.tree.specs.Recompute.{copy_of, through_neighbours, preferred, taken_links, shortest_tree, recomputed}
use Rattle.tree.specs.Shortest.{shortest}
use Rattle.tree.specs.Tree.{is_tree}
use Rattle.tree.proofs.Taken.{taken_by, taken_positive, taken_legal}
use Rattle.tree.proofs.ShortestTree.{length_tree_over, tree_legal}

-- A place for each unit.
pub length_recomputed : (n me : ℕ) (costs : List ℕ) (copies : List (List ℕ)) → length (recomputed n me costs copies) ≡ n
unfolding recomputed shortest_tree
length_recomputed n me costs copies =
    let links = taken_links n me costs copies (preferred n costs (through_neighbours n costs copies)) in
    length_tree_over n me links (shortest n me links)

-- A tree.
pub recomputed_tree : (n me : ℕ) (costs : List ℕ) (copies : List (List ℕ)) → me < n
    → ((k : ℕ) → k < n → at costs k ≤ highest_cost)
    → ((k : ℕ) → k < n → at costs k ≢ 0 → is_tree n k (copy_of copies k) ≡ true)
    → is_tree n me (recomputed n me costs copies) ≡ true
unfolding recomputed
recomputed_tree n me costs copies here legal copied =
    tree_legal n me (taken_by n me costs copies) here
    (taken_positive n me costs copies legal copied)
    (taken_legal n me costs copies legal copied)
