-- Step B and E at one unit: the new feasible distances are at most the distances in the new tree, and at most those in
-- every copy of the unit's tree that a neighbour holds. A unit that was PASSIVE only lowers them; one that has just got
-- its last acknowledgment knows that every neighbour's copy is its old tree, and stays below that; one that still waits
-- changes nothing; one that is alone has no copies to mind.
use Prim.Native.Nat.{ℕ, ◌≤◌, ◌<◌, min}
use native.Mathlib.Nat.{le_refl}
use native.Mathlib.Omega.{arith}
use mathlib.Core.Bool.{Bool, true, false, ◌&&◌}
use mathlib.Core.List.{List}
use mathlib.Core.Logic.{◌⊎◌, inl, inr, ⊎_elim}
use mathlib.Core.Path.{◌≡◌, ap, ◌∙◌}
use lib.Dec.{eqb}
use lib.ListN.{get_or-eq_default}
use borrow.Author.Tests.{eqb-true, not-true, not-false}
use Rattle.ground.specs.Rows.{at, tab, zeros, some}
use Rattle.ground.proofs.Rows.{tab_at, length_tab, some_none}
use Rattle.ground.proofs.Tests.{if_true, if_false, both, both_of, less_or_not}
use Rattle.tree.specs.Recompute.{recomputed}
use Rattle.tree.specs.Tree.{distance}
use Rattle.rules.specs.Event.{new_tree, lowered, changed, is_alone, new_feasible}
use Rattle.rules.specs.Message.{Message}
use Rattle.rules.specs.Unit.{Unit, is_neighbour, awaits, is_active, own_distance}
use Rattle.ground.proofs.Cases.{by_test}
use Rattle.loopfree.proofs.Exchange.{Line, line_settled}
use Rattle.loopfree.proofs.Trees.{zeros_furthest}

-- A row made from a function is at most what the function is, and 0 past its end.
pub tab_le : (n : ℕ) (f : ℕ → ℕ) (j x : ℕ) → (j < n → f j ≤ x) → at (tab n f) j ≤ x
tab_le n f j x h =
    ⊎_elim
    (λ l. rw (tab_at n f j 0 l) (h l))
    (λ l. rw (get_or-eq_default (tab n f) 0 {n = j} (rw length_tab l)) (omega arith))
    (less_or_not j n)

-- A unit that awaits nobody has no wait on any unit.
pub passive_waits : (u : Unit) → is_active u ≡ false → (k : ℕ) → k < u.count → at u.awaited k ≡ 0
unfolding is_active
passive_waits u p k h =
    eqb-true (at u.awaited k) 0 (not-false (eqb (at u.awaited k) 0) (some_none u.count (awaits u) p k h))

-- A unit that is alone has no neighbour.
alone_down : (v : Unit) → is_alone v ≡ true → (k : ℕ) → k < v.count → is_neighbour v k ≡ false
unfolding is_alone
alone_down v a k h = some_none v.count (is_neighbour v) (not-true (some v.count (is_neighbour v)) a) k h

-- A unit that still waits keeps its tree.
pub tree_kept : (v : Unit) (was : Bool) → was ≡ true → is_active v ≡ true → new_tree v was ≡ v.tree
unfolding new_tree
tree_kept v was a b = if_true (was && is_active v) v.tree _ (both_of was (is_active v) a b)

-- Any other recomputes it.
pub tree_new : (v : Unit) (was : Bool) → was && is_active v ≡ false
    → new_tree v was ≡ recomputed v.count v.me v.costs v.copies
unfolding new_tree
tree_new v was a = if_false (was && is_active v) v.tree _ a

module _ (v : Unit) (was : Bool) (tree : List ℕ) (j : ℕ) where
  -- The distance of j in the new tree.
  abbrev new_distance : ℕ
  new_distance = distance v.count v.me tree j

  -- Where the tree is the same and nobody is awaited, B makes the distance of it, if a PASSIVE unit's was that already.
  pub lowered_same : v.tree ≡ tree → is_active v ≡ false → (was ≡ false → at v.feasible j ≡ own_distance v j)
      → lowered v was tree j ≡ new_distance
  lowered_same e quiet before =
      let d : own_distance v j ≡ new_distance = ap (λ (t : List ℕ). distance v.count v.me t j) e in
      by_test was (λ a. rw (a, quiet) (omega arith)) (λ a. rw a (omega (arith, before a)))

  module _ (x : ℕ) (passive : was ≡ false → min (at v.feasible j) new_distance ≤ x)
      (waiting : was ≡ true → is_active v ≡ true → at v.feasible j ≤ x)
      (answered : was ≡ true → is_active v ≡ false → min (own_distance v j) new_distance ≤ x) where
    -- What B makes of a feasible distance is at most x where it is so in each of B's three cases.
    lowered_le : lowered v was tree j ≤ x
    lowered_le =
        by_test was
        (λ a. by_test (is_active v) (λ b. rw (a, b) (waiting a b)) (λ b. rw (a, b) (answered a b)))
        (λ a. rw a (passive a))

    -- A new feasible distance is at most x where that is so in E's case too.
    by_case : (is_alone v ≡ true → new_distance ≤ x) → at (new_feasible v was tree) j ≤ x
    unfolding new_feasible
    by_case alone =
        tab_le v.count _ j x (λ l.
        by_test (changed v tree && is_alone v)
        (λ c. rw c (alone (both (changed v tree) (is_alone v) c).1))
        (λ c. rw c lowered_le))

-- The new feasible distances are at most the distances in the new tree, where the old are at most those in the old.
pub feasible_own : (v : Unit) (was : Bool) → ((j : ℕ) → at v.feasible j ≤ own_distance v j)
    → (j : ℕ) → at (new_feasible v was (new_tree v was)) j ≤ distance v.count v.me (new_tree v was) j
feasible_own v was own j =
    by_case v was (new_tree v was) j _
    (λ a. omega arith)
    (λ a b. rw (tree_kept v was a b) (own j))
    (λ a b. omega arith)
    (λ a. le_refl _)

-- They are at most the distances in the copy that unit k holds. `v` is the unit after step A; what k should know before
-- the event is the old tree, or the empty one.
pub feasible_copied : (v : Unit) (was : Bool) (k : ℕ) {base copy : List ℕ} {there back : List Message} → k < v.count
    → (base ≡ v.tree) ⊎ (base ≡ zeros v.count)
    → Line v.count v.me (is_neighbour v k) (at v.awaited k) base v.feasible copy there back
    → (j : ℕ) → at (new_feasible v was (new_tree v was)) j ≤ distance v.count v.me copy j
feasible_copied v was k {base} {copy} h b l j =
    by_case v was (new_tree v was) j (distance v.count v.me copy j)
    (λ a. omega (arith, l.lower j))
    (λ a w. l.lower j)
    (λ a w. answered (line_settled l (passive_waits v w k h)))
    (λ a. empty (new_tree v was) (l.off (alone_down v a k h)).1)
  where
    empty : (tree : List ℕ) → copy ≡ zeros v.count
        → distance v.count v.me tree j ≤ distance v.count v.me copy j
    empty tree e = rw e (zeros_furthest v.count v.me tree j)

    own : copy ≡ v.tree ⊎ copy ≡ zeros v.count → own_distance v j ≤ distance v.count v.me copy j
    own (inl e) = rw e (le_refl (own_distance v j))
    own (inr e) = empty v.tree e

    answered : ((is_neighbour v k ≡ true) × (copy ≡ base)) ⊎ (copy ≡ zeros v.count)
        → min (own_distance v j) (distance v.count v.me (new_tree v was) j) ≤ distance v.count v.me copy j
    answered (inl s) = omega (arith, own (⊎_elim (λ o. inl (s.1 ∙ o)) (λ o. inr (s.1 ∙ o)) b))
    answered (inr s) = omega (arith, own (inr s))
