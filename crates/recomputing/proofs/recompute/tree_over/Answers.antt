-- `recomputing::recompute::tree_over` meets its contract. The invariant: the array holds the entries passed, and zeros.
use Prim.Native.Nat.{ℕ, ◌<◌}
use native.Mathlib.Omega.{arith}
use mathlib.Core.List.{List}
use mathlib.Core.Path.{◌≡◌, ◌∙◌}
use Rattle.ground.specs.Limits.{unit_limit}
use Rattle.ground.specs.Rows.{at}
use Rattle.tree.specs.Recompute.{tree_over}
use Rattle.ground.proofs.Filling.{filling, filled_all}
use Rattle.tree.proofs.ShortestTree.{entry_in, tree_over_at}
use Rattle.recomputing.proofs.recompute.tree_over.Goals as goal

-- The entry that was found for unit j is the tree's.
entry_by : (n me : ℕ) (links : List (List ℕ)) (distances : List ℕ) (j : ℕ) {r : ℕ} → j < n → r ≡ at (tree_over n me links distances) j
    → r ≡ entry_in n me links distances j
entry_by n me links distances j l e = e ∙ tree_over_at n me links distances j l

pub loop-j-preserved : goal.loop-j-preserved
loop-j-preserved c =
    let here = c.loop-j in
    let args = c.args in
    filling unit_limit here.j _ here.invariant
    (entry_by args.count args.me args.links args.distances here.j c.loop-j-test.true c.entry_over.ensures)
    (omega arith)

pub returns : goal.returns
unfolding tree_over
returns c =
    filled_all unit_limit c.loop-j.j c.args.count _ c.loop-j.invariant (omega arith)
