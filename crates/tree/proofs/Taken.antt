-- Every taken link has a legal cost, where each cost is 0 or a link's and each neighbour's copy is a tree: it is the
-- unit's own, or stands in the copy of a preferred neighbour, whose link is up.
use Prim.Native.Nat.{ℕ, ◌≤◌, ◌<◌}
use native.Mathlib.Omega.{arith}
use mathlib.Core.Bool.{Bool, true, false, not, ◌&&◌, ◌||◌}
use mathlib.Core.List.{List}
use mathlib.Core.Logic.{◌≢◌, ◌⊎◌, inl, inr, ⊎_elim}
use mathlib.Core.Path.{◌≡◌, refl, sym, ap, ◌∙◌}
use borrow.Author.Tests.{eqb-true, eqb-false, eq-eqb, ltb-true, leb-true}
use lib.Dec.{eqb, ltb, leb}
use lib.ListN.{length}
use Rattle.std.specs.Prelude.{if◌then◌else◌}
use Rattle.ground.specs.Limits.{far, highest_cost}
use Rattle.ground.specs.Rows.{at}
use Rattle.ground.proofs.Rows.{every_at, lowest_holds}
use Rattle.ground.proofs.Tests.{both, either, neither, if_true, if_false, yes_or_no}
use Rattle.tree.specs.Recompute.{copy_of, through_neighbours, sum_through, preferred, copied_link, taken_links}
use Rattle.tree.specs.Shortest.{link}
use Rattle.tree.specs.Tree.{nothing, head_of, cost_of, legal_entry, is_tree, distance}
use Rattle.tree.proofs.Cells.{through_at, nearest_for, lowest_for, preferred_at, preferred_most, taken_cell, taken_at}
use Rattle.tree.proofs.Shortest.{Links}
use Rattle.tree.proofs.ShortestTree.{LegalLinks}

-- The cost of a link: unreachable for none, or at least 1 and at most the highest cost.
abbrev LinkCost : ℕ → Type 0
LinkCost c = (c ≡ far) ⊎ ((1 ≤ c) × (c ≤ highest_cost))

-- An entry of a tree costs at least 1.
entry_cost : (n root : ℕ) (tree : List ℕ) → is_tree n root tree ≡ true → (j : ℕ) → j < n → at tree j ≢ nothing
    → 1 ≤ cost_of (at tree j)
unfolding is_tree
entry_cost n root tree e j h some =
    ⊎_elim
    (λ z. absurd (some (eqb-true _ nothing z)))
    (λ r. leb-true 1 (cost_of (at tree j)) (both other _ (both (other && leb 1 (cost_of (at tree j))) _ r).0).1)
    (either (eqb (at tree j) nothing) _ (every_at n (legal_entry n root tree) (both (eqb (length tree) n) _ e).1 j h))
  where
    other : Bool
    other = not (eqb j root) && ltb (head_of (at tree j)) n

-- A choice by a test, where both branches have a property.
by_choice : (P : ℕ → Type 0) (t : Bool) (a b : ℕ) → (t ≡ true → P a) → (t ≡ false → P b) → P (if t then a else b)
by_choice P true a b p q = p refl
by_choice P false a b p q = q refl

-- The preferred neighbours.
abbrev pub preferred_by : (n : ℕ) (costs : List ℕ) (copies : List (List ℕ)) → List ℕ
preferred_by n costs copies = preferred n costs (through_neighbours n costs copies)

-- The links that are taken by them.
abbrev pub taken_by : (n me : ℕ) (costs : List ℕ) (copies : List (List ℕ)) → List (List ℕ)
taken_by n me costs copies = taken_links n me costs copies (preferred_by n costs copies)

module _ (n me : ℕ) (costs : List ℕ) (copies : List (List ℕ))
    (legal : (k : ℕ) → k < n → at costs k ≤ highest_cost)
    (copied : (k : ℕ) → k < n → at costs k ≢ 0 → is_tree n k (copy_of copies k) ≡ true) where
  -- The preferences.
  abbrev P : List ℕ
  P = preferred_by n costs copies

  -- The link of a preferred neighbour is up: through a unit whose link is down every sum is unreachable.
  preferred_up : (i : ℕ) → i < n → at P i ≢ n → at costs (at P i) ≢ 0
  preferred_up i h some down =
      ⊎_elim
      near
      (λ t. some (preferred_at n costs through i h ∙ if_false _ (lowest_for n costs through i) n t))
      (yes_or_no (ltb (nearest_for n costs through i) far))
    where
      through : List (List ℕ)
      through = through_neighbours n costs copies

      far_sum : (k : ℕ) → k < n → at costs k ≡ 0 → sum_through costs through k i ≡ far
      far_sum k l e =
          let c : link through k i ≡ far =
          through_at n costs copies k i l h ∙ if_true _ far (distance n k (copy_of copies k) i) (eq-eqb (at costs k) 0 e) in
          omega arith

      near : ltb (nearest_for n costs through i) far ≡ true → ⊥
      near t =
          let k : ℕ = lowest_for n costs through i in
          let e : at P i ≡ k = preferred_at n costs through i h ∙ if_true _ (lowest_for n costs through i) n t in
          let l : k < n = omega (arith, preferred_most n costs through i h) in
          let q : sum_through costs through k i ≡ nearest_for n costs through i =
          eqb-true _ _ (lowest_holds n (λ x. eqb (sum_through costs through x i) (nearest_for n costs through i)) l) in
          let z : sum_through costs through k i ≡ far = far_sum k l (ap (at costs) (sym e) ∙ down) in
          let f : nearest_for n costs through i < far = ltb-true _ _ t in
          omega arith

  -- A link in a copy that is a tree.
  copied_cost : (k i j : ℕ) → k < n → at costs k ≢ 0 → j < n → LinkCost (copied_link (copy_of copies k) i j)
  copied_cost k i j hk up hj =
      by_choice LinkCost (eqb (at (copy_of copies k) j) nothing || not (eqb (head_of (at (copy_of copies k) j)) i)) far _
      (λ t. inl refl)
      (λ t. inr (entry_cost n k (copy_of copies k) (copied k hk up) j hj (eqb-false _ nothing (neither _ _ t).0), omega arith))

  -- A taken link.
  cell_cost : (i j : ℕ) → i < n → j < n → LinkCost (taken_cell n costs me copies P i j)
  cell_cost i j hi hj =
      by_choice LinkCost (eqb i me) _ _
      (λ t. by_choice LinkCost (eqb (at costs j) 0) far (at costs j) (λ z. inl refl)
      (λ z. inr (let p : at costs j ≢ 0 = eqb-false (at costs j) 0 z in omega arith, legal j hj)))
      (λ t. by_choice LinkCost (eqb (at P i) n) far _ (λ z. inl refl)
      (λ z.
      let p : at P i ≢ n = eqb-false (at P i) n z in
      copied_cost (at P i) i j
      (omega (arith, preferred_most n costs (through_neighbours n costs copies) i hi))
      (preferred_up i hi p) hj))

  -- The same of the table.
  taken_cost : (i j : ℕ) → i < n → j < n → LinkCost (link (taken_by n me costs copies) i j)
  taken_cost i j hi hj = rw (taken_at n costs me copies P i j hi hj) (cell_cost i j hi hj)

  -- The taken links cost at least 1.
  pub taken_positive : Links n (taken_by n me costs copies)
  taken_positive = record { positive = λ i j hi hj. ⊎_elim (λ f. omega arith) (λ c. c.0) (taken_cost i j hi hj) }

  -- Where they are there they cost at most the highest cost.
  pub taken_legal : LegalLinks n (taken_by n me costs copies)
  taken_legal = record { low = λ i j hi hj. ⊎_elim (λ f. inl f) (λ c. inr c.1) (taken_cost i j hi hj) }
