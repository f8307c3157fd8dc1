-- Rule: shortest distances from a root over links, a row of costs for each unit that a link leaves, unreachable where there
-- is no link. They are the least over all walks of at most the count less one links, found by allowing one more link at
-- a time; proofs/Shortest.antt shows that they are the only solution of the three facts that the word stands for.
use Rattle.std.specs.Prelude.{ℕ, zero, suc, ◌-◌, min, List, [], eqb, get_or}
use Rattle.std.specs.Prelude.{if◌then◌else◌}
use Rattle.ground.specs.Limits.{far}
use Rattle.ground.specs.Rows.{at, tab, least}
use Rattle.tree.specs.Tree.{plus}

-- The cost of the link from i to j.
abbrev pub link : (links : List (List ℕ)) (i j : ℕ) → ℕ
link links i j = at (get_or links i []) j

-- What unit i, at its distance, offers to unit j.
abbrev pub offer : (links : List (List ℕ)) (distances : List ℕ) (i j : ℕ) → ℕ
offer links distances i j = plus (at distances i) (link links i j)

-- The distances with one more link allowed.
abbrev pub one_more : (n : ℕ) (links : List (List ℕ)) (distances : List ℕ) → List ℕ
one_more n links distances = tab n (λ j. min (at distances j) (least n (λ i. offer links distances i j)))

-- The least over all walks from the root of at most m links.
unfoldable pub shortest_within : (n root : ℕ) (links : List (List ℕ)) (m : ℕ) → List ℕ
shortest_within n root links zero = tab n (λ j. if eqb j root then 0 else far)
shortest_within n root links (suc m) = one_more n links (shortest_within n root links m)

abbrev pub shortest : (n root : ℕ) (links : List (List ℕ)) → List ℕ
shortest n root links = shortest_within n root links (n - 1)
