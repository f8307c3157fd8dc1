-- Rule: "A tree rooted at a unit gives each other unit either nothing or a head (the unit before it) and a link cost."
-- A tree is a row, a number for each unit: head × 65,536 + cost, or 0 for nothing. A cost is at least 1, so nothing has
-- no second form, and two entries are equal exactly when their numbers are.
use Rattle.std.specs.Prelude.{ℕ, zero, suc, ◌+◌, ◌-◌, ◌*◌, ◌/◌, ◌%◌, min, Bool, not, ◌&&◌, ◌||◌, List, eqb, ltb, leb, length}
use Rattle.std.specs.Prelude.{if◌then◌else◌}
use Rattle.ground.specs.Limits.{far, entry_base}
use Rattle.ground.specs.Rows.{at, every}

abbrev pub nothing : ℕ
nothing = 0

abbrev pub entry : ℕ → ℕ → ℕ
entry head cost = head * entry_base + cost

abbrev pub head_of : ℕ → ℕ
head_of e = e / entry_base

abbrev pub cost_of : ℕ → ℕ
cost_of e = e % entry_base

-- The sum of two distances; unreachable where one of them is.
abbrev pub plus : ℕ → ℕ → ℕ
plus a b = min far (a + b)

-- The distance of unit j found by following heads over at most `left` links: "The distance of the root is 0, of a unit
-- without entry unreachable."
unfoldable pub distance_within : (root : ℕ) (tree : List ℕ) (left j : ℕ) → ℕ
distance_within root tree zero j = if eqb j root then 0 else far
distance_within root tree (suc left) j =
    if eqb j root then 0
    else if eqb (at tree j) nothing then far
    else plus (cost_of (at tree j)) (distance_within root tree left (head_of (at tree j)))

-- "Following heads reaches the root in at most the count less one links."
abbrev pub distance : (n root : ℕ) (tree : List ℕ) (j : ℕ) → ℕ
distance n root tree j = distance_within root tree (n - 1) j

-- An entry of unit j: nothing, or, of a unit other than the root, a head below the count and a cost of at least 1 from
-- which following heads reaches the root. (No cost passes 65,535: it is a remainder.)
abbrev pub legal_entry : (n root : ℕ) (tree : List ℕ) (j : ℕ) → Bool
legal_entry n root tree j =
    eqb (at tree j) nothing
    || (not (eqb j root)
    && ltb (head_of (at tree j)) n
    && leb 1 (cost_of (at tree j))
    && ltb (distance n root tree j) far)

-- Whether a row is a tree of n units rooted at root.
unfoldable pub is_tree : (n root : ℕ) (tree : List ℕ) → Bool
is_tree n root tree = eqb (length tree) n && every n (legal_entry n root tree)
