-- Rule: the conditions of document 02, No. 5, which every network that calls reach meets, and from which demand 3 holds as it
-- does from the fresh network: "Restoring needs: the tables fit; a unit that awaits nobody has the tree that recomputing gives
-- and feasible distances equal to its distances; over each link up at both ends, an awaited end has exactly one update
-- queued or its acknowledgment queued back, an end not awaited has neither; the queued update is acceptable on the held
-- copy and gives the sender's tree, and without one the copy is that tree; each unit's feasible distance is at most its
-- own distance and that in each copy of its tree held over a link up at both ends."
use Rattle.std.specs.Prelude.{ℕ, ◌+◌, Bool, not, ◌&&◌, ◌||◌, List, [], ◌∷◌, eqb, leb, length, get_or, drop}
use Rattle.std.specs.Prelude.{if◌then◌else◌}
use Rattle.ground.specs.Rows.{at, tab, every, same}
use Rattle.tree.specs.Recompute.{copy_of, recomputed}
use Rattle.tree.specs.Tree.{is_tree}
use Rattle.rules.specs.Event.{changes_nothing}
use Rattle.rules.specs.Message.{Message, holds_acknowledgment, holds_update, applied}
use Rattle.rules.specs.Network.{Network, unit_at, queue, is_up, next_message, fit_network}
use Rattle.rules.specs.Unit.{Unit, awaits, is_active, own_distance, copied_distance}

-- "a unit that awaits nobody has the tree that recomputing gives and feasible distances equal to its distances"
unfoldable pub is_settled : Unit → Bool
is_settled u =
    is_active u
    || (same u.tree (recomputed u.count u.me u.costs u.copies)
    && same u.feasible (tab u.count (own_distance u)))

-- "each unit's feasible distance is at most its own distance"
unfoldable pub is_below_own : Unit → Bool
is_below_own u = every u.count (λ j. leb (at u.feasible j) (own_distance u j))

-- The messages of a queue that pass a test, counted: those that hold an update, and those that hold an acknowledgment.
unfoldable pub count_in : (test : Message → Bool) → List Message → ℕ
count_in test [] = 0
count_in test (m ∷ rest) = (if test m then 1 else 0) + count_in test rest

abbrev pub updates_in : List Message → ℕ
updates_in messages = count_in holds_update messages

abbrev pub acknowledgments_in : List Message → ℕ
acknowledgments_in messages = count_in holds_acknowledgment messages

-- "an awaited end has exactly one update queued or its acknowledgment queued back, an end not awaited has neither": of the
-- end at b of the link from a, the two counted together.
unfoldable pub is_answered : Network → (a b : ℕ) → Bool
is_answered net a b =
    eqb (updates_in (queue net a b) + acknowledgments_in (queue net b a)) (if awaits (unit_at net a) b then 1 else 0)

-- "the held copy": that of a's tree at b.
abbrev pub held_copy : Network → (a b : ℕ) → List ℕ
held_copy net a b = copy_of (unit_at net b).copies a

-- "the queued update is acceptable on the held copy": refusals 11 and 12 don't apply to it.
unfoldable pub acceptable : (n sender : ℕ) (copy : List ℕ) → Message → Bool
acceptable n sender copy m =
    not (holds_update m) || (not (changes_nothing copy m.changes) && is_tree n sender (applied copy m.changes))

unfoldable pub is_acceptable : Network → (a b : ℕ) → Bool
is_acceptable net a b =
    every (length (queue net a b)) (λ i.
    acceptable net.count a (held_copy net a b) (next_message (drop i (queue net a b))))

-- A copy once a message has arrived; once all messages of a queue have, the first first.
abbrev pub heard : (copy : List ℕ) → Message → List ℕ
heard copy m = if holds_update m then applied copy m.changes else copy

unfoldable pub heard_all : (copy : List ℕ) → List Message → List ℕ
heard_all copy [] = copy
heard_all copy (m ∷ rest) = heard_all (heard copy m) rest

-- "and gives the sender's tree, and without one the copy is that tree"
unfoldable pub gives_tree : Network → (a b : ℕ) → Bool
gives_tree net a b = same (heard_all (held_copy net a b) (queue net a b)) (unit_at net a).tree

-- "and that in each copy of its tree held over a link up at both ends"
unfoldable pub is_below_copy : Network → (a b : ℕ) → Bool
is_below_copy net a b =
    every net.count (λ j. leb (at (unit_at net a).feasible j) (copied_distance (unit_at net b) a j))

-- What is asked of a unit, and of each direction of a link that is up.
abbrev pub meets_at : Unit → Bool
meets_at u = is_settled u && is_below_own u

abbrev pub meets_between : Network → (a b : ℕ) → Bool
meets_between net a b =
    not (is_up net a b)
    || (is_answered net a b && is_acceptable net a b && gives_tree net a b && is_below_copy net a b)

-- "Restoring needs"
unfoldable pub meets_conditions : Network → Bool
meets_conditions net =
    fit_network net
    && every net.count (λ i. meets_at (unit_at net i))
    && every net.count (λ a. every net.count (meets_between net a))

-- The lists of a network have a place for each unit, as they have in any network that tables hold.
unfoldable pub has_rows : Unit → Bool
has_rows u =
    eqb (length u.costs) u.count
    && eqb (length u.awaited) u.count
    && eqb (length u.feasible) u.count
    && eqb (length u.copies) u.count

unfoldable pub has_places : Network → Bool
has_places net =
    eqb (length net.units) net.count
    && every net.count (λ i. has_rows (unit_at net i))
    && eqb (length net.queues) net.count
    && every net.count (λ a. eqb (length (get_or net.queues a [])) net.count)

-- A network that calls may start from.
unfoldable pub is_start : Network → Bool
is_start net = has_places net && meets_conditions net
