-- Rule: recomputing a unit's tree from its link costs and the copies of its neighbours' trees. `costs` holds 0 where the link
-- is down. Unit `me` is the one that recomputes.
use Rattle.std.specs.Prelude.{ℕ, not, ◌||◌, List, [], eqb, ltb, get_or}
use Rattle.std.specs.Prelude.{if◌then◌else◌}
use Rattle.ground.specs.Limits.{far}
use Rattle.ground.specs.Rows.{at, tab, least, lowest}
use Rattle.tree.specs.Tree.{nothing, entry, head_of, cost_of, plus, distance}
use Rattle.tree.specs.Shortest.{link, offer, shortest}

-- The copy held of unit k's tree.
abbrev pub copy_of : (copies : List (List ℕ)) (k : ℕ) → List ℕ
copy_of copies k = get_or copies k []

-- "distances through neighbours are worked out as a table, a row of distances for each neighbour": those in its copy,
-- where "Each neighbour k counts as the root of its own copy, at 0 there, even when the copy is empty." A unit whose link
-- is down has a row of unreachable.
unfoldable pub through_neighbours : (n : ℕ) (costs : List ℕ) (copies : List (List ℕ)) → List (List ℕ)
through_neighbours n costs copies =
    tab n (λ k. tab n (λ j. if eqb (at costs k) 0 then far else distance n k (copy_of copies k) j))

-- "the least sum of link cost and j's distance in its copy", by neighbour k
abbrev pub sum_through : (costs : List ℕ) (through : List (List ℕ)) (k j : ℕ) → ℕ
sum_through costs through k j = plus (at costs k) (at (get_or through k []) j)

-- "the preferred neighbour is the one with the least sum ..; of equal sums the lowest number", for each unit j; n for a
-- unit that no copy has at a finite distance.
unfoldable pub preferred : (n : ℕ) (costs : List ℕ) (through : List (List ℕ)) → List ℕ
preferred n costs through =
    tab n (λ j.
    let nearest = least n (λ k. sum_through costs through k j) in
    if ltb nearest far then lowest n (λ k. eqb (sum_through costs through k j) nearest) else n)

-- The cost of the link from i to j in a copy, where i is j's head there.
abbrev pub copied_link : (copy : List ℕ) (i j : ℕ) → ℕ
copied_link copy i j =
    if eqb (at copy j) nothing || not (eqb (head_of (at copy j)) i) then far else cost_of (at copy j)

-- "Every link out of j in that neighbour's copy is taken." "The links out of this unit are its own up links with their
-- present costs, and no others."
unfoldable pub taken_links : (n me : ℕ) (costs : List ℕ) (copies : List (List ℕ)) (preferences : List ℕ) → List (List ℕ)
taken_links n me costs copies preferences =
    tab n (λ i.
    tab n (λ j.
    if eqb i me then (if eqb (at costs j) 0 then far else at costs j)
    else if eqb (at preferences i) n then far
    else copied_link (copy_of copies (at preferences i)) i j))

-- "A unit's head is the lowest-numbered one that gives its shortest distance. Links not in the tree are dropped."
unfoldable pub tree_over : (n me : ℕ) (links : List (List ℕ)) (distances : List ℕ) → List ℕ
tree_over n me links distances =
    tab n (λ j.
    let head = lowest n (λ i. eqb (offer links distances i j) (at distances j)) in
    if eqb j me || eqb (at distances j) far then nothing else entry head (link links head j))

-- "The new tree has the shortest distances over the taken links."
unfoldable pub shortest_tree : (n me : ℕ) (links : List (List ℕ)) → List ℕ
shortest_tree n me links = tree_over n me links (shortest n me links)

unfoldable pub recomputed : (n me : ℕ) (costs : List ℕ) (copies : List (List ℕ)) → List ℕ
recomputed n me costs copies =
    shortest_tree n me (taken_links n me costs copies (preferred n costs (through_neighbours n costs copies)))
