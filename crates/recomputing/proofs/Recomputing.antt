-- The recomputation's steps over filled arrays: each array reads like the table that it holds, so the tree at the end is
-- the one over the taken links; and from the tables of a fit unit that is the recomputed tree of the rules.
use Prim.Native.Nat.{ℕ, ◌≤◌, ◌<◌}
use native.Mathlib.Omega.{arith}
use mathlib.Core.Bool.{true, false}
use mathlib.Core.List.{List, []}
use mathlib.Core.Logic.{◌⊎◌, inl, inr, ⊎_elim}
use mathlib.Core.Path.{◌≡◌, sym, ap, ◌∙◌}
use borrow.Author.Tests.{leb-true, le-leb, lt-leb, lt-ltb, le-ltb}
use lib.Dec.{ltb, leb}
use Rattle.ground.specs.Limits.{unit_limit, highest_cost, legal_cost, far}
use Rattle.ground.specs.Rows.{at, tab, filled, filled_rows}
use Rattle.tree.specs.Recompute.{through_neighbours, preferred, taken_links, tree_over, shortest_tree, recomputed}
use Rattle.tree.specs.Shortest.{link, shortest}
use Rattle.ground.proofs.Filling.{filled_rows_same}
use Rattle.ground.proofs.Places.{at_filled}
use Rattle.ground.proofs.Rows.{tab_ext}
use Rattle.ground.proofs.Tests.{both, both_of, and_false, if_true, if_false, yes_or_no}
use Rattle.tree.proofs.ByPlace.{SameLinks, SamePlaces, preferred_same, shortest_same, tree_over_same, facts_same}
use Rattle.tree.proofs.Cells.{cell_at, taken_cell, taken_at, taken_is}
use Rattle.tree.proofs.Shortest.{Links, ShortestFacts, shortest_facts}
use Rattle.tree.proofs.Taken.{preferred_by, taken_by, taken_positive, taken_legal}
use Rattle.tree.proofs.ShortestTree.{LegalLinks}
use Rattle.recomputing.specs.Flat.{copies_in, is_whole}
use Rattle.recomputing.specs.Legal.{legal_link, legal_taken, recomputed_from, LegalCosts, LegalCopies}

-- A filled array reads like the row that it holds.
row_same : (xs ys : List ℕ) → xs ≡ filled unit_limit ys → SamePlaces xs ys
row_same xs ys e i = ap (λ (zs : List ℕ). at zs i) e ∙ at_filled unit_limit ys i

-- A filled table reads like the table that it holds.
table_same : (xs ys : List (List ℕ)) → xs ≡ filled_rows unit_limit ys → SameLinks xs ys
table_same xs ys e i j = ap (λ (zs : List (List ℕ)). link zs i j) e ∙ filled_rows_same unit_limit ys i j

-- A link's cost is at least 1, and one that is there at most the highest.
legal_positive : (c : ℕ) → 1 ≤ legal_link c
legal_positive c =
    ⊎_elim
    (λ t. rw (if_true _ c far t) (leb-true 1 c (both (leb 1 c) (leb c highest_cost) t).0))
    (λ t. rw (if_false _ c far t) (omega arith))
    (yes_or_no (legal_cost c))

legal_low : (c : ℕ) → (legal_link c ≡ far) ⊎ (legal_link c ≤ highest_cost)
legal_low c =
    ⊎_elim
    (λ t. inr (rw (if_true _ c far t) (leb-true c highest_cost (both (leb 1 c) (leb c highest_cost) t).1)))
    (λ t. inl (if_false _ c far t))
    (yes_or_no (legal_cost c))

-- What costs that much already stays.
legal_same : (c : ℕ) → 1 ≤ c → (c ≡ far) ⊎ (c ≤ highest_cost) → legal_link c ≡ c
legal_same c low high =
    ⊎_elim
    (λ e. if_false _ c far (and_false (leb 1 c) (leb c highest_cost) (lt-leb c highest_cost (omega arith))) ∙ sym e)
    (λ l. if_true _ c far (both_of (leb 1 c) (leb c highest_cost) (le-leb 1 c low) (le-leb c highest_cost l)))
    high

module _ (n me : ℕ) (costs : List ℕ) (copies : List (List ℕ)) (preferences : List ℕ) where
  -- The taken links that have a link's cost, by place.
  abbrev L : List (List ℕ)
  L = legal_taken n me costs copies preferences

  legal-at : (i j : ℕ) → i < n → j < n → link L i j ≡ legal_link (link (taken_links n me costs copies preferences) i j)
  unfolding legal_taken
  legal-at = cell_at n (λ i j. legal_link (link (taken_links n me costs copies preferences) i j))

  -- They cost at least 1.
  legal_links : Links n L
  legal_links = record { positive = λ i j hi hj. rw (legal-at i j hi hj) (legal_positive (link (taken_links n me costs copies preferences) i j)) }

  -- And where they are there they cost at most the highest cost.
  legal_legal : LegalLinks n L
  legal_legal = record { low = λ i j hi hj. rw (legal-at i j hi hj) (legal_low (link (taken_links n me costs copies preferences) i j)) }

-- The steps up to the taken links, as arrays.
pub record Steps (n me : ℕ) (costs flat : List ℕ) (through links : List (List ℕ)) : Type 0 where
  pub whole : is_whole n flat ≡ true
  pub here : me < n
  pub taking : links ≡ filled_rows unit_limit (legal_taken n me costs (copies_in n flat) (preferred n costs through))

module _ {n me : ℕ} {costs flat : List ℕ} {through links : List (List ℕ)} (s : Steps n me costs flat through links) where
  abbrev copies : List (List ℕ)
  copies = copies_in n flat

  -- The links that are taken by the preferences.
  abbrev taken : List (List ℕ)
  taken = legal_taken n me costs copies (preferred n costs through)

  links_same : SameLinks links taken
  links_same = table_same links taken s.taking

  -- So they cost at least 1.
  pub links_positive : Links n links
  links_positive =
      record {
        positive = λ i j hi hj.
            rw (links_same i j) ((legal_links n me costs copies (preferred n costs through)).positive i j hi hj);
      }

  -- And where they are there they cost at most the highest cost.
  pub links_legal : LegalLinks n links
  links_legal =
      record {
        low = λ i j hi hj. rw (links_same i j) ((legal_legal n me costs copies (preferred n costs through)).low i j hi hj);
      }

  module _ {distances : List ℕ} (ed : distances ≡ filled unit_limit (shortest n me links)) where
    -- The distances have the three facts.
    pub distances_facts : ShortestFacts n me links (at distances)
    distances_facts =
        facts_same n me links (at (shortest n me links)) (at distances)
        (λ i. sym (row_same distances (shortest n me links) ed i))
        (shortest_facts n me links s.here links_positive)

    -- The tree over them is the one over the taken links.
    pub tree_taken : tree_over n me links distances ≡ recomputed_from n me costs flat through
    unfolding recomputed_from shortest_tree
    tree_taken =
        tree_over_same n me links taken distances (shortest n me taken) links_same
        (λ i. row_same distances (shortest n me links) ed i
        ∙ ap (λ (zs : List ℕ). at zs i) (shortest_same n me links taken links_same))
        ∙ sym (if_true _ _ [] (both_of (is_whole n flat) (ltb me n) s.whole (lt-ltb me n s.here)))

-- No tree from copies that are not worked with, nor for a number that is no unit.
pub none_whole : (n me : ℕ) (costs flat : List ℕ) (through : List (List ℕ)) → is_whole n flat ≡ false
    → recomputed_from n me costs flat through ≡ []
unfolding recomputed_from
none_whole n me costs flat through h = rw h

pub none_placed : (n me : ℕ) (costs flat : List ℕ) (through : List (List ℕ)) → n ≤ me → recomputed_from n me costs flat through ≡ []
unfolding recomputed_from
none_placed n me costs flat through h = if_false _ _ [] (and_false (is_whole n flat) (ltb me n) (le-ltb me n h))

-- From the tables of a fit unit it is the recomputed tree of the rules.
pub recomputed-from : (n me : ℕ) (costs flat : List ℕ) (through : List (List ℕ)) → is_whole n flat ≡ true → me < n
    → LegalCosts n costs
    → LegalCopies n costs (copies_in n flat)
    → through ≡ filled_rows unit_limit (through_neighbours n costs (copies_in n flat))
    → recomputed_from n me costs flat through ≡ recomputed n me costs (copies_in n flat)
unfolding recomputed_from recomputed legal_taken
recomputed-from n me costs flat through whole here legal copied rows =
    if_true _ _ [] (both_of (is_whole n flat) (ltb me n) whole (lt-ltb me n here))
    ∙ ap (λ (p : List ℕ). shortest_tree n me (legal_taken n me costs C p))
    (preferred_same n costs through (through_neighbours n costs C) (table_same through (through_neighbours n costs C) rows))
    ∙ ap (shortest_tree n me) all_legal
  where
    C : List (List ℕ)
    C = copies_in n flat

    T : List (List ℕ)
    T = taken_by n me costs C

    cell : (i j : ℕ) → ℕ
    cell = taken_cell n costs me C (preferred_by n costs C)

    all_legal : tab n (λ i. tab n (λ j. legal_link (link T i j))) ≡ T
    all_legal =
        tab_ext n (λ i. tab n (λ j. legal_link (link T i j))) (λ i. tab n (cell i))
        (λ i hi. tab_ext n (λ j. legal_link (link T i j)) (cell i) (λ j hj.
        legal_same (link T i j) ((taken_positive n me costs C legal copied).positive i j hi hj)
        ((taken_legal n me costs C legal copied).low i j hi hj)
        ∙ taken_at n costs me C (preferred_by n costs C) i j hi hj))
        ∙ taken_is n costs me C (preferred_by n costs C)
