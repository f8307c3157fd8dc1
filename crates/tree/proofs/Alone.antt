-- A unit whose links are all down recomputes the empty tree: no link leaves it, so it is at 0 and every other unit
-- unreachable, which is the only solution of what shortest distances are.
use Prim.Native.Nat.{ℕ, ◌<◌, ◌≤◌}
use native.Mathlib.Omega.{arith}
use mathlib.Core.List.{List}
use mathlib.Core.Logic.{◌≢◌, ⊎_elim}
use mathlib.Core.Path.{◌≡◌, refl, sym, ◌∙◌}
use borrow.Author.Tests.{eq-eqb, ne_eqb}
use lib.Dec.{eqb}
use lib.ListN.{length-replicate}
use lib.Seq.{ext_get_or}
use Rattle.std.specs.Prelude.{if◌then◌else◌}
use Rattle.ground.specs.Limits.{far}
use Rattle.ground.specs.Rows.{at, zeros}
use Rattle.ground.proofs.Lists.{at_zeros}
use Rattle.ground.proofs.Tests.{either_left, either_right, if_true, equal_or_not}
use Rattle.tree.specs.Recompute.{tree_over, shortest_tree, recomputed}
use Rattle.tree.specs.Shortest.{link, shortest}
use Rattle.tree.specs.Tree.{nothing}
use Rattle.tree.proofs.Cells.{taken_at}
use Rattle.tree.proofs.Shortest.{ShortestFacts, unique, shortest_facts}
use Rattle.tree.proofs.Taken.{preferred_by, taken_by, taken_positive}
use Rattle.tree.proofs.ShortestTree.{length_tree_over, tree_over_at}

module _ (n me : ℕ) (costs : List ℕ) (copies : List (List ℕ)) (here : me < n)
    (down : (k : ℕ) → k < n → at costs k ≡ 0) where
  -- The links that are taken.
  abbrev links : List (List ℕ)
  links = taken_by n me costs copies

  -- None leaves the unit.
  own_link : (j : ℕ) → j < n → link links me j ≡ far
  own_link j h =
      taken_at n costs me copies (preferred_by n costs copies) me j here h
      ∙ rw (eq-eqb me me refl, down j h)

  -- The unit itself is at 0 and every other unit unreachable.
  abbrev lone : ℕ → ℕ
  lone j = if eqb j me then 0 else far

  lone_far : (j : ℕ) → j ≢ me → lone j ≡ far
  lone_far j d = rw (ne_eqb j me d)

  -- These are shortest distances.
  lone_facts : ShortestFacts n me links lone
  lone_facts =
      record {
        root_zero = rw (eq-eqb me me refl);
        none_less = λ i j hi hj.
            ⊎_elim
            (λ (e : i ≡ me). rw e (omega (arith, own_link j hj, at_most j)))
            (λ d. omega (arith, lone_far i d, at_most j))
            (equal_or_not i me);
        offered = λ j h d near. absurd (omega (arith, lone_far j d));
        at_most_far = λ j h. at_most j;
      }
    where
      at_most : (j : ℕ) → lone j ≤ far
      at_most j =
          ⊎_elim (λ e. rw (eq-eqb j me e) (omega arith)) (λ d. omega (arith, lone_far j d)) (equal_or_not j me)

  -- So they are the ones that are found.
  found : (j : ℕ) → j < n → at (shortest n me links) j ≡ lone j
  found j h =
      let positive =
      taken_positive n me costs copies (λ k l. omega (arith, down k l)) (λ k l up. absurd (up (down k l))) in
      unique n me links positive (at (shortest n me links)) lone (shortest_facts n me links here positive) lone_facts j h

  -- The tree has no entry.
  pub alone_recomputed : recomputed n me costs copies ≡ zeros n
  unfolding recomputed shortest_tree
  alone_recomputed =
      ext_get_or 0 (tree_over n me links (shortest n me links)) (zeros n)
      (length_tree_over n me links (shortest n me links) ∙ sym (length-replicate n 0))
      (λ j l. let h : j < n = omega (arith, length_tree_over n me links (shortest n me links)) in
      tree_over_at n me links (shortest n me links) j h
      ∙ if_true _ nothing _
      (⊎_elim
      (λ e. either_left (eqb j me) _ (eq-eqb j me e))
      (λ d. either_right (eqb j me) _ (eq-eqb _ far (found j h ∙ lone_far j d)))
      (equal_or_not j me))
      ∙ sym (at_zeros n j))
