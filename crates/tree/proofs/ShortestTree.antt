-- The tree made from shortest distances: what it holds for each unit, that it is a tree, and that it has these very
-- distances.
use Prim.Native.Nat.{ℕ, ◌≤◌, ◌<◌}
use native.Mathlib.Omega.{arith}
use mathlib.Core.Bool.{Bool, true, ◌||◌}
use mathlib.Core.List.{List}
use mathlib.Core.Logic.{◌≢◌, ◌⊎◌, ⊎_elim}
use mathlib.Core.Path.{◌≡◌, refl, ◌∙◌}
use lib.Dec.{eqb}
use lib.ListN.{length}
use borrow.Author.Tests.{eqb-true, eq-eqb, ne_eqb}
use Rattle.std.specs.Prelude.{if◌then◌else◌}
use Rattle.ground.specs.Limits.{far, highest_cost}
use Rattle.ground.specs.Rows.{at, lowest}
use Rattle.ground.proofs.Rows.{tab_at, length_tab, lowest_holds, lowest_some}
use Rattle.ground.proofs.Tests.{if_true, if_false, either_left, either_right, neither_of}
use Rattle.tree.specs.Tree.{nothing, entry, plus, distance, is_tree}
use Rattle.tree.specs.Shortest.{link, offer, shortest}
use Rattle.tree.specs.Recompute.{tree_over, shortest_tree}
use Rattle.tree.proofs.Shortest.{Links, ShortestFacts, shortest_facts}
use Rattle.tree.proofs.Tree.{Headed, headed_of, TreeFacts, fits_distance, fits_tree}

-- Every link between units below n is missing or costs at most the highest cost.
pub record LegalLinks (n : ℕ) (links : List (List ℕ)) : Type 0 where
  pub low : (i j : ℕ) → i < n → j < n → (link links i j ≡ far) ⊎ (link links i j ≤ highest_cost)

-- The lowest unit that offers unit j its distance.
abbrev pub head_in : (n : ℕ) (links : List (List ℕ)) (distances : List ℕ) (j : ℕ) → ℕ
head_in n links distances j = lowest n (λ i. eqb (offer links distances i j) (at distances j))

-- What treeOver holds for unit j.
abbrev pub entry_in : (n me : ℕ) (links : List (List ℕ)) (distances : List ℕ) (j : ℕ) → ℕ
entry_in n me links distances j =
    let head = head_in n links distances j in
    if eqb j me || eqb (at distances j) far then nothing else entry head (link links head j)

-- A tree made from distances has a place for each unit.
pub length_tree_over : (n me : ℕ) (links : List (List ℕ)) (distances : List ℕ)
    → length (tree_over n me links distances) ≡ n
unfolding tree_over
length_tree_over n me links distances = length_tab n (entry_in n me links distances)

-- It holds for unit j nothing, or the head and the cost of the link from it.
pub tree_over_at : (n me : ℕ) (links : List (List ℕ)) (distances : List ℕ) (j : ℕ) → j < n
    → at (tree_over n me links distances) j ≡ entry_in n me links distances j
unfolding tree_over
tree_over_at n me links distances j h = tab_at n (entry_in n me links distances) j 0 h

module _ (n me : ℕ) (links : List (List ℕ)) (distances : List ℕ) (here : me < n) (costs : Links n links)
    (legals : LegalLinks n links) (facts : ShortestFacts n me links (at distances)) where
  -- The tree, the head that it gives to unit j, and the cost of the link from it.
  abbrev T : List ℕ
  T = tree_over n me links distances

  abbrev H : ℕ → ℕ
  H j = head_in n links distances j

  abbrev C : ℕ → ℕ
  C j = link links (H j) j

  -- The root and unreachable units have no entry.
  no_entry : (j : ℕ) → j < n → eqb j me || eqb (at distances j) far ≡ true → at T j ≡ nothing
  no_entry j h t = tree_over_at n me links distances j h ∙ if_true _ nothing (entry (H j) (C j)) t

  -- Any other unit has one.
  an_entry : (j : ℕ) → j < n → j ≢ me → at distances j < far → at T j ≡ entry (H j) (C j)
  an_entry j h r f =
      tree_over_at n me links distances j h
      ∙ if_false _ nothing (entry (H j) (C j))
      (neither_of (eqb j me) _ (ne_eqb j me r) (ne_eqb (at distances j) far (omega arith)))

  -- The head is a unit, and offers the distance.
  abbrev Offers : ℕ → Type 0
  Offers j = (H j < n) × (plus (at distances (H j)) (C j) ≡ at distances j)

  head_offers : (j : ℕ) → j < n → j ≢ me → at distances j < far → Offers j
  head_offers j h r f =
      let p : ℕ → Bool = λ i. eqb (offer links distances i j) (at distances j) in
      let o : (i : ℕ) × (i < n) × (offer links distances i j ≡ at distances j) = facts.offered j h r f in
      let l : H j ≤ o.0 = lowest_some n p o.0 o.1 (eq-eqb (offer links distances o.0 j) _ o.2) in
      let b : H j < n = omega arith in
      (b, eqb-true (offer links distances (H j) j) (at distances j) (lowest_holds n p b))

  -- A link that offers a finite distance has a legal cost.
  cost_low : (j : ℕ) → j < n → at distances j < far → Offers j → C j ≤ highest_cost
  cost_low j h f o = ⊎_elim (λ e. absurd (omega arith)) (λ l. l) (legals.low (H j) j o.0 h)

  -- The entry adds up.
  entry_headed : (j : ℕ) → j < n → j ≢ me → at distances j < far → Headed n T (at distances) j
  entry_headed j h r f =
      let o : Offers j = head_offers j h r f in
      let c : C j ≤ highest_cost = cost_low j h f o in
      let p : 1 ≤ C j = costs.positive (H j) j o.0 h in
      headed_of n T (at distances) j (H j) (C j) (an_entry j h r f) o.0 p c (omega arith)

  -- Shortest distances fit the tree that is made from them.
  pub tree_over_facts : TreeFacts n me T (at distances)
  tree_over_facts =
      record {
        places = length_tree_over n me links distances;
        root_zero = facts.root_zero;
        root_empty = no_entry me here (either_left (eqb me me) _ (eq-eqb me me refl));
        headed = entry_headed;
        empty = none;
      }
    where
      none : (j : ℕ) → j < n → j ≢ me → far ≤ at distances j → (at distances j ≡ far) × (at T j ≡ nothing)
      none j h r f =
          let e : at distances j ≡ far = omega (arith, facts.at_most_far j h) in
          (e, no_entry j h (either_right (eqb j me) _ (eq-eqb (at distances j) far e)))

-- The tree made from the shortest distances has them as its own distances.
pub tree_distance : (n me : ℕ) (links : List (List ℕ)) → me < n → Links n links → LegalLinks n links
    → (j : ℕ) → j < n → distance n me (shortest_tree n me links) j ≡ at (shortest n me links) j
unfolding shortest_tree
tree_distance n me links here costs legals =
    fits_distance n me (tree_over n me links (shortest n me links)) (at (shortest n me links))
    (tree_over_facts n me links (shortest n me links) here costs legals (shortest_facts n me links here costs))

-- The tree made from the shortest distances is a tree.
pub tree_legal : (n me : ℕ) (links : List (List ℕ)) → me < n → Links n links → LegalLinks n links
    → is_tree n me (shortest_tree n me links) ≡ true
unfolding shortest_tree
tree_legal n me links here costs legals =
    fits_tree n me (tree_over n me links (shortest n me links)) (at (shortest n me links))
    (tree_over_facts n me links (shortest n me links) here costs legals (shortest_facts n me links here costs))
