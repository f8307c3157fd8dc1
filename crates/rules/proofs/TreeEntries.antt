-- What the test of a tree tells of its entries: each is nothing, or has a legal head other than its unit and a cost of at
-- least 1; the root has none; each is short enough for the body of a change.
use Prim.Native.Nat.{ℕ, zero, suc, ◌-◌, ◌≤◌, ◌<◌}
use native.Mathlib.Omega.{arith}
use mathlib.Core.Bool.{true, not, ◌&&◌}
use mathlib.Core.List.{List}
use mathlib.Core.Logic.{◌⊎◌, inl, inr, ⊎_elim, ◌≢◌}
use mathlib.Core.Path.{◌≡◌, refl}
use borrow.Author.Tests.{eqb-true, eqb-false, ltb-true, leb-true, not-true}
use lib.Dec.{eqb, ltb, leb}
use Rattle.ground.specs.Limits.{unit_limit, far}
use Rattle.ground.specs.Rows.{at}
use Rattle.tree.specs.Tree.{nothing, head_of, cost_of, distance_within, distance, legal_entry, is_tree}
use Rattle.ground.proofs.Lists.{parts}
use Rattle.ground.proofs.Rows.{every_at}
use Rattle.ground.proofs.Tests.{either}
use Rattle.tree.proofs.Tree.{distance_cut, distance_more}
use Rattle.rules.specs.Message.{removed}

-- An entry that is there: of a unit other than the root, with a head below the count that is another unit, and a cost.
pub record TreeEntry (n root : ℕ) (tree : List ℕ) (j : ℕ) : Type 0 where
  pub away : j ≢ root
  pub head : head_of (at tree j) < n
  pub other : head_of (at tree j) ≢ j
  pub cost : 1 ≤ cost_of (at tree j)

-- A unit that is its own head never reaches the root.
own_head : (root : ℕ) (tree : List ℕ) (j : ℕ) → j ≢ root → at tree j ≢ nothing → head_of (at tree j) ≡ j → (left : ℕ)
    → distance_within root tree left j ≡ far
own_head root tree j r e q zero = distance_cut root tree j r
own_head root tree j r e q (suc left) =
    let rest : distance_within root tree left (head_of (at tree j)) ≡ far = rw q (own_head root tree j r e q left) in
    omega (arith, distance_more root tree left j r e)

module _ (n root : ℕ) (tree : List ℕ) (t : is_tree n root tree ≡ true) where
  -- An entry of a tree is nothing, or is there.
  pub tree_entry : (j : ℕ) → j < n → (at tree j ≡ nothing) ⊎ TreeEntry n root tree j
  unfolding is_tree
  tree_entry j l =
      ⊎_elim (λ z. inl (eqb-true (at tree j) nothing z)) there
      (either (eqb (at tree j) nothing) _ (every_at n (legal_entry n root tree) (search parts) j l))
    where
      there : not (eqb j root) && ltb (head_of (at tree j)) n && leb 1 (cost_of (at tree j)) && ltb (distance n root tree j) far ≡ true
          → (at tree j ≡ nothing) ⊎ TreeEntry n root tree j
      there e =
          let away : j ≢ root = eqb-false j root (not-true (eqb j root) (search parts)) in
          let cost : 1 ≤ cost_of (at tree j) = leb-true 1 (cost_of (at tree j)) (search parts) in
          let near : distance n root tree j < far = ltb-true (distance n root tree j) far (search parts) in
          inr (record {
            away = away;
            head = ltb-true (head_of (at tree j)) n (search parts);
            other = λ q. omega (arith, own_head root tree j away (omega arith) q (n - 1));
            cost = cost;
          })

  -- The root has no entry.
  pub tree_root : root < n → at tree root ≡ nothing
  tree_root l = ⊎_elim (λ z. z) (λ e. absurd (e.away refl)) (tree_entry root l)

  -- An entry of a tree is below the body for a removed entry, so an update can carry it.
  pub tree_short : n ≤ unit_limit → (j : ℕ) → j < n → at tree j < removed
  tree_short few j l = ⊎_elim (λ z. omega arith) (λ e. omega (arith, e.head)) (tree_entry j l)
