-- Rule: one event at one unit, steps A to F.
use Rattle.std.specs.Prelude.{ℕ, ◌+◌, min, Bool, not, ◌&&◌, ◌||◌, List, [], ◌∷◌, eqb, length, set}
use Rattle.std.specs.Prelude.{if◌then◌else◌}
use Rattle.ground.specs.Refusal.{◌gives◌, ◌otherwise◌}
use Rattle.ground.specs.Rows.{at, tab, zeros, some, same}
use Rattle.tree.specs.Recompute.{copy_of, recomputed}
use Rattle.tree.specs.Tree.{distance, is_tree}
use Rattle.rules.specs.Message.{Message, acknowledgment, update, holds_acknowledgment, holds_update, differences, applied, changed_unit, body_of, entry_of}
use Rattle.rules.specs.Unit.{Unit, is_neighbour, awaits, is_active, own_distance}

-- A message received, "Link up", "Cost", "Link down", each about the link to one neighbour.
pub data Event : Type 0 where
  received : Message → Event
  link_up : (neighbour cost : ℕ) → Event
  new_cost : (neighbour cost : ℕ) → Event
  link_down : (neighbour : ℕ) → Event

-- A unit's tables with the given costs, copies and waits; with the given tree, feasible distances and waits.
abbrev pub with_links : Unit → (costs : List ℕ) (copies : List (List ℕ)) (awaited : List ℕ) → Unit
with_links u costs copies awaited =
    record {
      count = u.count;
      me = u.me;
      costs = costs;
      awaited = awaited;
      tree = u.tree;
      feasible = u.feasible;
      copies = copies;
    }

abbrev pub with_tree : Unit → (tree feasible awaited : List ℕ) → Unit
with_tree u tree feasible awaited =
    record {
      count = u.count;
      me = u.me;
      costs = u.costs;
      awaited = awaited;
      tree = tree;
      feasible = feasible;
      copies = u.copies;
    }

-- A. "A message: its acknowledgment clears the wait on the sender; its update changes the sender's copy. Link up: cost
-- set, copy empty. Cost: cost set. Link down: cost, copy and wait removed."
unfoldable pub noted : Unit → Event → Unit
noted u (received m) =
    with_links u u.costs
    (if holds_update m then set u.copies m.sender (applied (copy_of u.copies m.sender) m.changes) else u.copies)
    (if holds_acknowledgment m then set u.awaited m.sender 0 else u.awaited)
noted u (link_up k c) = with_links u (set u.costs k c) (set u.copies k (zeros u.count)) u.awaited
noted u (new_cost k c) = with_links u (set u.costs k c) u.copies u.awaited
noted u (link_down k) =
    with_links u (set u.costs k 0) (set u.copies k (zeros u.count)) (set u.awaited k 0)

-- Steps B to F follow from what step A leaves: `v` is the unit after step A, `was` whether it was ACTIVE before, `new` the
-- neighbour whose link came up and `owed` the one whose update is to be acknowledged, each the count where there is none.

-- "After link up the new neighbour"
abbrev pub new_of : (n : ℕ) → Event → ℕ
new_of n (received m) = n
new_of n (link_up neighbour cost) = neighbour
new_of n (new_cost neighbour cost) = n
new_of n (link_down neighbour) = n

-- D. "A message that held an update is acknowledged in the same event"
abbrev pub owed_of : (n : ℕ) → Event → ℕ
owed_of n (received m) = if holds_update m then m.sender else n
owed_of n (link_up neighbour cost) = n
owed_of n (new_cost neighbour cost) = n
owed_of n (link_down neighbour) = n

-- B. "If the unit was PASSIVE, it recomputes"; "If it was ACTIVE and now awaits nobody, it .. recomputes"; "If it still
-- awaits somebody, its tree .. stay[s]."
unfoldable pub new_tree : (v : Unit) (was : Bool) → List ℕ
new_tree v was = if was && is_active v then v.tree else recomputed v.count v.me v.costs v.copies

-- B. PASSIVE: "each feasible distance becomes the smaller of itself and the new distance"; ACTIVE and awaiting nobody
-- now: "the smaller of old and new distance"; else "feasible distances stay".
abbrev pub lowered : (v : Unit) (was : Bool) (tree : List ℕ) (j : ℕ) → ℕ
lowered v was tree j =
    if not was then min (at v.feasible j) (distance v.count v.me tree j)
    else if is_active v then at v.feasible j
    else min (own_distance v j) (distance v.count v.me tree j)

-- C. "If the tree changed"
unfoldable pub changed : (u : Unit) (tree : List ℕ) → Bool
changed u tree = not (same u.tree tree)

-- E. "If the tree changed and there is no neighbour, feasible distances equal the new distances."
unfoldable pub is_alone : Unit → Bool
is_alone v = not (some v.count (is_neighbour v))

unfoldable pub new_feasible : (v : Unit) (was : Bool) (tree : List ℕ) → List ℕ
new_feasible v was tree =
    tab v.count (λ j.
    if changed v tree && is_alone v then distance v.count v.me tree j else lowered v was tree j)

-- C. "every neighbour is sent one update"; "the new neighbour is always sent the whole tree, changed or not"
unfoldable pub is_sent_update : (v : Unit) (tree : List ℕ) (new k : ℕ) → Bool
is_sent_update v tree new k = is_neighbour v k && (changed v tree || eqb k new)

-- C. "Each neighbour sent an update is awaited."
unfoldable pub new_awaited : (v : Unit) (tree : List ℕ) (new : ℕ) → List ℕ
new_awaited v tree new = tab v.count (λ k. if is_sent_update v tree new k then 1 else at v.awaited k)

-- C. "with the differences"; the new neighbour's "as differences from the empty one".
unfoldable pub differences_for : (v : Unit) (tree : List ℕ) (new k : ℕ) → List ℕ
differences_for v tree new k = differences v.count (if eqb k new then zeros v.count else v.tree) tree

-- C and D. What neighbour k is sent, at most one message: the acknowledgment "in the message to its sender if there is
-- one, else in a message of its own."
unfoldable pub message_to : (v : Unit) (tree : List ℕ) (new owed k : ℕ) → List Message
message_to v tree new owed k =
    if is_sent_update v tree new k
    then record {
      kind = if eqb k owed then acknowledgment + update else update;
      sender = v.me;
      changes = differences_for v tree new k;
    }
    ∷ []
    else if eqb k owed then record { kind = acknowledgment; sender = v.me; changes = [] } ∷ []
    else []

-- What the event leaves: the unit's tables, and for each unit the messages sent to it. F is read from the tables
-- (`isSuccessor`).
pub record Reaction : Type 0 where
  pub unit : Unit
  pub sent : List (List Message)

abbrev pub reaction_with : (v : Unit) (was : Bool) (new owed : ℕ) (tree : List ℕ) → Reaction
reaction_with v was new owed tree =
    record {
      unit = with_tree v tree (new_feasible v was tree) (new_awaited v tree new);
      sent = tab v.count (message_to v tree new owed);
    }

unfoldable pub reaction_by : (v : Unit) (was : Bool) (new owed : ℕ) → Reaction
reaction_by v was new owed = reaction_with v was new owed (new_tree v was)

unfoldable pub reaction : Unit → Event → Reaction
reaction u e =
    let v = noted u e in
    reaction_by v (is_active u) (new_of u.count e) (owed_of u.count e)

-- 11: "an entry that changes nothing in the copy"
unfoldable pub changes_nothing : (copy changes : List ℕ) → Bool
changes_nothing copy changes =
    some (length changes) (λ i. eqb (at copy (changed_unit (at changes i))) (entry_of (body_of (at changes i))))

-- Refusals 10 to 12 of a message that keeps the layout and came by a link that is up.
unfoldable pub message_refusal : Unit → Message → ℕ
message_refusal u m =
    (holds_acknowledgment m && not (awaits u m.sender)) gives 10
    otherwise changes_nothing (copy_of u.copies m.sender) m.changes gives 11
    otherwise not (is_tree u.count m.sender (applied (copy_of u.copies m.sender) m.changes)) gives 12
