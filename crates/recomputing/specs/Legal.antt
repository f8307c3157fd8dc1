-- Order: the links that the recomputation takes from any numbers: of those that the rules take, such as have a link's cost.
-- From the tables of a fit unit all have: `recomputed-from` of proofs/Recomputing.antt.
use Rattle.std.specs.Prelude.{ℕ, ◌≤◌, ◌<◌, true, ◌&&◌, List, [], ◌≢◌, ◌≡◌, eqb, ltb}
use Rattle.std.specs.Prelude.{if◌then◌else◌}
use Rattle.ground.specs.Limits.{highest_cost, legal_cost, far}
use Rattle.ground.specs.Rows.{at, tab}
use Rattle.tree.specs.Recompute.{copy_of, preferred, taken_links, shortest_tree}
use Rattle.tree.specs.Shortest.{link}
use Rattle.tree.specs.Tree.{head_of, cost_of, is_tree}
use Rattle.recomputing.specs.Flat.{copies_in, is_whole}

-- A link's cost, or unreachable.
abbrev pub legal_link : (cost : ℕ) → ℕ
legal_link cost = if legal_cost cost then cost else far

-- The links out of this unit; and the link from i that an entry of a copy gives, where i is its head.
abbrev pub own_links : (n : ℕ) (costs : List ℕ) → List ℕ
own_links n costs = tab n (λ j. legal_link (at costs j))

abbrev pub link_from : (i e : ℕ) → ℕ
link_from i e = if eqb (head_of e) i then legal_link (cost_of e) else far

-- The taken links that have a link's cost.
unfoldable pub legal_taken : (n me : ℕ) (costs : List ℕ) (copies : List (List ℕ)) (preferences : List ℕ) → List (List ℕ)
legal_taken n me costs copies preferences =
    tab n (λ i. tab n (λ j. legal_link (link (taken_links n me costs copies preferences) i j)))

-- The tree over them, where `through` is said to hold the distances through neighbours; nothing for numbers that are no
-- count and no unit.
unfoldable pub recomputed_from : (n me : ℕ) (costs flat : List ℕ) (through : List (List ℕ)) → List ℕ
recomputed_from n me costs flat through =
    if is_whole n flat && ltb me n
    then shortest_tree n me (legal_taken n me costs (copies_in n flat) (preferred n costs through))
    else []

-- What holds of the tables of a fit unit: costs are legal, and each neighbour's copy is a tree.
abbrev pub LegalCosts : (n : ℕ) (costs : List ℕ) → Type 0
LegalCosts n costs = (k : ℕ) → k < n → at costs k ≤ highest_cost

abbrev pub LegalCopies : (n : ℕ) (costs : List ℕ) (copies : List (List ℕ)) → Type 0
LegalCopies n costs copies = (k : ℕ) → k < n → at costs k ≢ 0 → is_tree n k (copy_of copies k) ≡ true
