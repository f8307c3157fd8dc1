-- Steps B to F leave a fit unit fit, and keep its shape.
use Prim.Native.Nat.{ℕ, ◌≤◌, ◌<◌, min}
use native.Mathlib.Omega.{arith}
use mathlib.Core.Bool.{Bool, true, not, ◌&&◌}
use mathlib.Core.List.{List}
use mathlib.Core.Logic.{inl, inr, ⊎_elim}
use mathlib.Core.Path.{◌≡◌, refl, ap, ◌∙◌}
use borrow.Author.Tests.{eq-eqb}
use lib.ListN.{length}
use Rattle.std.specs.Prelude.{if◌then◌else◌}
use Rattle.ground.specs.Rows.{at}
use Rattle.tree.specs.Tree.{distance, is_tree}
use Rattle.rules.specs.Event.{changed, is_alone}
use Rattle.rules.specs.Unit.{Unit, is_active, fit_unit}
use Rattle.ground.proofs.Choices.{by_choice}
use Rattle.ground.proofs.Rows.{length_tab, tab_at}
use Rattle.ground.proofs.Tests.{if_false, equal_or_not}
use Rattle.tree.proofs.Recomputed.{length_recomputed, recomputed_tree}
use Rattle.tree.proofs.Rooted.{LegalDistance, distance_longest}
use Rattle.tree.proofs.Tree.{distance_root}
use Rattle.rules.proofs.FitUnit.{FitFacts, fit_facts, facts_fit}
use Rattle.rules.proofs.Laid.{ShapedUnit}
use Rattle.rules.specs.Event.{new_tree, lowered, new_feasible, is_sent_update, new_awaited, reaction_by}

-- A distance of unit j that is legal as one of unit me: 0 to itself.
abbrev Feasible : (me j d : ℕ) → Type 0
Feasible me j d = (j ≡ me → d ≡ 0) × LegalDistance d

-- The smaller of two such is one.
smaller : (me j a b : ℕ) → Feasible me j a → Feasible me j b → Feasible me j (min a b)
smaller me j a b p q = (λ e. omega (arith, p.0 e, q.0 e), low p.1 q.1)
  where
    low : LegalDistance a → LegalDistance b → LegalDistance (min a b)
    low (inl e) (inl f) = inl (omega arith)
    low (inl e) (inr l) = inr (omega arith)
    low (inr l) d = inr (omega arith)

module _ (v : Unit) (was : Bool) where
  -- The new tree.
  abbrev T : List ℕ
  T = new_tree v was

  -- It has a place for each unit.
  pub length_by : length v.tree ≡ v.count → length T ≡ v.count
  unfolding new_tree
  length_by e =
      by_choice (λ (t : List ℕ). length t ≡ v.count) (was && is_active v) v.tree _ (λ _. e)
      (λ _. length_recomputed v.count v.me v.costs v.copies)

  -- It is a tree.
  pub tree_by : FitFacts v → is_tree v.count v.me T ≡ true
  unfolding new_tree
  tree_by f =
      by_choice (λ (t : List ℕ). is_tree v.count v.me t ≡ true) (was && is_active v) v.tree _ (λ _. f.tree)
      (λ _. recomputed_tree v.count v.me v.costs v.copies f.me f.cost f.copy_up)

  -- What the new feasible distances and waits are made by.
  abbrev distance_by : (j : ℕ) → ℕ
  distance_by j = if changed v T && is_alone v then distance v.count v.me T j else lowered v was T j

  abbrev wait_by : (new k : ℕ) → ℕ
  wait_by new k = if is_sent_update v T new k then 1 else at v.awaited k

  module _ (new owed : ℕ) where
    -- The unit that is left.
    abbrev pub unit_by : Unit
    unit_by = (reaction_by v was new owed).unit

    -- A shaped unit stays so.
    pub shaped_again : ShapedUnit v → ShapedUnit unit_by
    unfolding reaction_by new_feasible new_awaited
    shaped_again s =
        record {
          limit = s.limit;
          costs = s.costs;
          awaited = length_tab v.count (wait_by new);
          tree = length_by s.tree;
          feasible = length_tab v.count distance_by;
          copies = s.copies;
          copy = s.copy;
        }

    module _ (f : FitFacts v) where
      -- Distances in a tree rooted at the unit are legal.
      own : (tree : List ℕ) (j : ℕ) → Feasible v.me j (distance v.count v.me tree j)
      own tree j = (λ e. distance_root v.me tree _ j e, distance_longest v.count v.me tree f.high j)

      -- So are its feasible distances.
      old : (j : ℕ) → j < v.count → Feasible v.me j (at v.feasible j)
      old j l =
          ⊎_elim
          (λ e.
          let z : at v.feasible j ≡ 0 = ap (at v.feasible) e ∙ f.own_feasible in
          (λ _. z, inr (omega arith)))
          (λ d. (λ e. absurd (d e), f.feasible j l d))
          (equal_or_not j v.me)

      -- So are the new ones.
      feasible_by : (j : ℕ) → j < v.count → Feasible v.me j (at (new_feasible v was T) j)
      unfolding new_feasible
      feasible_by j l =
          rw (tab_at v.count distance_by j 0 l)
          (by_choice (Feasible v.me j) (changed v T && is_alone v) _ _ (λ _. own T j)
          (λ _. by_choice (Feasible v.me j) (not was) _ _ (λ _. smaller v.me j _ _ (old j l) (own T j))
          (λ _. by_choice (Feasible v.me j) (is_active v) _ _ (λ _. old j l)
          (λ _. smaller v.me j _ _ (own v.tree j) (own T j)))))

      -- A wait stays, or is 1.
      wait-by : (k : ℕ) → k < v.count → at (new_awaited v T new) k ≡ wait_by new k
      unfolding new_awaited
      wait-by k l = tab_at v.count (wait_by new) k 0 l

      -- It is at most 1.
      wait_low : (k : ℕ) → k < v.count → at (new_awaited v T new) k ≤ 1
      wait_low k l =
          rw (wait-by k l)
          (by_choice (λ (w : ℕ). w ≤ 1) (is_sent_update v T new k) 1 (at v.awaited k) (λ _. omega arith) (λ _. f.wait k l))

      -- It stays 0 where the link is down.
      wait_none : (k : ℕ) → k < v.count → at v.costs k ≡ 0 → at (new_awaited v T new) k ≡ 0
      unfolding is_sent_update
      wait_none k l z =
          wait-by k l
          ∙ if_false (is_sent_update v T new k) 1 (at v.awaited k) (rw (eq-eqb (at v.costs k) 0 z))
          ∙ f.wait_down k l z

      -- What is fit of the unit that is left.
      pub facts_by : FitFacts unit_by
      unfolding reaction_by
      facts_by =
          record {
            low = f.low;
            high = f.high;
            me = f.me;
            cost = f.cost;
            own_cost = f.own_cost;
            wait = wait_low;
            wait_down = wait_none;
            copy_down = f.copy_down;
            copy_up = f.copy_up;
            tree = tree_by f;
            own_feasible = (feasible_by v.me f.me).0 refl;
            feasible = λ j l d. (feasible_by j l).1;
          }

-- A fit unit stays fit.
pub fit_again : (v : Unit) (was : Bool) (new owed : ℕ) → fit_unit v ≡ true
    → fit_unit (reaction_by v was new owed).unit ≡ true
fit_again v was new owed fit = facts_fit (unit_by v was new owed) (facts_by v was new owed (fit_facts v fit))
