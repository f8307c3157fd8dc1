-- Rule: a unit's tables, and what can be asked of them. Rows have a place for each unit below the count.
use Rattle.std.specs.Prelude.{ℕ, Bool, not, ◌&&◌, ◌||◌, List, eqb, ltb, leb}
use Rattle.std.specs.Prelude.{if◌then◌else◌}
use Rattle.ground.specs.Limits.{far, longest, legal_count, legal_cost}
use Rattle.ground.specs.Rows.{at, tab, zeros, every, some, bits, rising, same}
use Rattle.tree.specs.Recompute.{copy_of}
use Rattle.tree.specs.Tree.{distance, is_tree}

-- "For each neighbour whose link is up: the cost, the copy of its tree, whether an acknowledgment is awaited. Besides:
-- its own tree, a feasible distance .. for each destination." A cost of 0 says that the link is down; awaited is 1 or 0.
-- The successor sets follow from these by F.
pub record Unit : Type 0 where
  pub count : ℕ
  pub me : ℕ
  pub costs : List ℕ
  pub awaited : List ℕ
  pub tree : List ℕ
  pub feasible : List ℕ
  pub copies : List (List ℕ)

-- "neighbour whose link is up"
abbrev pub is_neighbour : Unit → (k : ℕ) → Bool
is_neighbour u k = not (eqb (at u.costs k) 0)

-- "A unit is ACTIVE exactly when it awaits an acknowledgment, else PASSIVE."
abbrev pub awaits : Unit → (k : ℕ) → Bool
awaits u k = not (eqb (at u.awaited k) 0)

unfoldable pub is_active : Unit → Bool
is_active u = some u.count (awaits u)

-- The distances in its own tree, and in the copy of neighbour k's.
abbrev pub own_distance : Unit → (j : ℕ) → ℕ
own_distance u j = distance u.count u.me u.tree j

abbrev pub copied_distance : Unit → (k j : ℕ) → ℕ
copied_distance u k j = distance u.count k (copy_of u.copies k) j

-- F. "Successors for destination j: each neighbour whose copy puts j at a distance strictly below j's feasible distance."
unfoldable pub is_successor : Unit → (j k : ℕ) → Bool
is_successor u j k = is_neighbour u k && ltb (copied_distance u k j) (at u.feasible j)

-- The successors for destination j, rising; and as one number, the sum of 2 ^ k over them.
unfoldable pub successors : Unit → (j : ℕ) → List ℕ
successors u j = rising u.count (is_successor u j)

unfoldable pub successor_set : Unit → (j : ℕ) → ℕ
successor_set u j = bits u.count (is_successor u j)

-- "Fresh: all links down, trees and queues empty, feasible distance 0 to itself and unreachable to others, all PASSIVE."
unfoldable pub fresh_unit : (n me : ℕ) → Unit
fresh_unit n me =
    record {
      count = n;
      me = me;
      costs = zeros n;
      awaited = zeros n;
      tree = zeros n;
      feasible = tab n (λ j. if eqb j me then 0 else far);
      copies = tab n (λ k. zeros n);
    }

-- What refusal 2 looks at in one unit's tables, neighbour by neighbour: "a count, cost, tree, distance .. outside the
-- rules above", "a copy, wait .. on a link that is down". No unit has a link to itself.
unfoldable pub fit_link : Unit → (k : ℕ) → Bool
fit_link u k =
    if eqb (at u.costs k) 0
    then eqb (at u.awaited k) 0 && same (copy_of u.copies k) (zeros u.count)
    else not (eqb k u.me)
    && legal_cost (at u.costs k)
    && leb (at u.awaited k) 1
    && is_tree u.count k (copy_of u.copies k)

-- "A distance is unreachable .. or at most 983,025"; "a feasible distance (to itself always 0)"
unfoldable pub fit_feasible : Unit → (j : ℕ) → Bool
fit_feasible u j =
    if eqb j u.me then eqb (at u.feasible j) 0
    else eqb (at u.feasible j) far || leb (at u.feasible j) longest

unfoldable pub fit_unit : Unit → Bool
fit_unit u =
    legal_count u.count
    && ltb u.me u.count
    && every u.count (fit_link u)
    && is_tree u.count u.me u.tree
    && every u.count (fit_feasible u)
