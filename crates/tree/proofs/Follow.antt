-- Following heads with a number of links left that a program counts down.
use Prim.Native.Nat.{ℕ, suc, ◌-◌}
use native.Mathlib.Omega.{arith}
use mathlib.Core.List.{List}
use mathlib.Core.Logic.{◌≢◌}
use mathlib.Core.Path.{◌≡◌, ap, ◌∙◌}
use Rattle.ground.specs.Limits.{far}
use Rattle.ground.specs.Rows.{at}
use Rattle.tree.specs.Tree.{nothing, plus, distance_within}
use Rattle.tree.proofs.Tree.{head_at, cost_at, distance_cut, distance_more}

module _ (root : ℕ) (tree : List ℕ) (left j : ℕ) (other : j ≢ root) where
  -- No link is left.
  pub follow_cut : left ≡ 0 → distance_within root tree left j ≡ far
  follow_cut e = rw e (distance_cut root tree j other)

  -- One link is taken, to the head.
  pub follow_more : left ≢ 0 → at tree j ≢ nothing
      → distance_within root tree left j ≡ plus (cost_at tree j) (distance_within root tree (left - 1) (head_at tree j))
  follow_more e h =
      let s : left ≡ suc (left - 1) = omega arith in
      ap (λ (l : ℕ). distance_within root tree l j) s ∙ distance_more root tree (left - 1) j other h
