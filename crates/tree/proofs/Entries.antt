-- The entries of the tree over links, as a scan for the lowest head finds them.
use Prim.Native.Nat.{ℕ, ◌<◌, ◌≤◌}
use native.Mathlib.Omega.{arith}
use mathlib.Core.Bool.{false}
use mathlib.Core.List.{List}
use mathlib.Core.Logic.{◌≢◌, ⊎_elim}
use mathlib.Core.Path.{◌≡◌, ap, ◌∙◌}
use borrow.Author.Tests.{eq-eqb, ne_eqb}
use lib.Dec.{eqb}
use Rattle.ground.specs.Limits.{far, highest_cost}
use Rattle.ground.specs.Rows.{at}
use Rattle.ground.proofs.Lists.{lowest_is}
use Rattle.ground.proofs.Tests.{not_both, if_true, if_false, either_left, either_right, neither_of}
use Rattle.tree.specs.Recompute.{tree_over}
use Rattle.tree.specs.Shortest.{link, offer}
use Rattle.tree.specs.Tree.{nothing, entry}
use Rattle.tree.proofs.Shortest.{ShortestFacts}
use Rattle.tree.proofs.ShortestTree.{LegalLinks, head_in, tree_over_at}

module _ (n me : ℕ) (links : List (List ℕ)) (d : List ℕ) (j : ℕ) (h : j < n) where
  -- The root has no entry.
  pub entry_root : j ≡ me → at (tree_over n me links d) j ≡ nothing
  entry_root e = tree_over_at n me links d j h ∙ if_true _ nothing _ (either_left (eqb j me) _ (eq-eqb j me e))

  -- A unit that can't be reached has none.
  pub entry_far : at d j ≡ far → at (tree_over n me links d) j ≡ nothing
  entry_far e = tree_over_at n me links d j h ∙ if_true _ nothing _ (either_right (eqb j me) _ (eq-eqb (at d j) far e))

-- Unit j is another than the root and can be reached, and the distances are the shortest.
pub record Reached (n me : ℕ) (links : List (List ℕ)) (d : List ℕ) (j : ℕ) : Type 0 where
  pub inside : j < n
  pub other : j ≢ me
  pub near : at d j ≢ far
  pub facts : ShortestFacts n me links (at d)

module _ {n me : ℕ} {links : List (List ℕ)} {d : List ℕ} {j : ℕ} (r : Reached n me links d j) where
  -- Unit i offers unit j its distance.
  abbrev Offers : (i : ℕ) → Type 0
  Offers i = offer links d i j ≡ at d j

  -- No unit below i does.
  abbrev NoneBelow : (i : ℕ) → Type 0
  NoneBelow i = (k : ℕ) → k < i → eqb (offer links d k j) (at d j) ≡ false

  -- Its head is the first unit that offers its distance.
  pub entry_found : (i : ℕ) → i < n → NoneBelow i → Offers i → at (tree_over n me links d) j ≡ entry i (link links i j)
  entry_found i l before e =
      tree_over_at n me links d j r.inside
      ∙ if_false _ nothing _ (neither_of (eqb j me) _ (ne_eqb j me r.other) (ne_eqb (at d j) far r.near))
      ∙ ap (λ (k : ℕ). entry k (link links k j)) first
    where
      first : head_in n links d j ≡ i
      first =
          lowest_is n (λ k. eqb (offer links d k j) (at d j)) i (omega arith) before
          (λ b. eq-eqb (offer links d i j) (at d j) e)

  -- There is such a unit.
  pub entry_some : NoneBelow n → ⊥
  entry_some none =
      let o : (i : ℕ) × (i < n) × Offers i =
      r.facts.offered j r.inside r.other (omega (arith, r.near, r.facts.at_most_far j r.inside)) in
      not_both _ (eq-eqb (offer links d o.0 j) (at d j) o.2) (none o.0 o.1)

  -- The link from it has a legal cost.
  pub entry_low : LegalLinks n links → (i : ℕ) → i < n → Offers i → link links i j ≤ highest_cost
  entry_low legals i l e =
      ⊎_elim
      (λ f. absurd (r.near (omega (arith, r.facts.at_most_far j r.inside))))
      (λ b. b)
      (legals.low i j l r.inside)
