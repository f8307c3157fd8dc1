-- The figures P1 to P12, as one table: on the left what the definitions compute, on the right what document 01 says.
-- `figures` states that the two columns are the same.
use Prim.Native.Nat.{ℕ}
use mathlib.Core.Path.{◌≡◌, refl}
use mathlib.Core.List.{List, [], ◌∷◌, ◌++◌, map}
use lib.ListN.{length, drop}
use Rattle.std.specs.Prelude.{if◌then◌else◌}
use Rattle.ground.specs.Limits.{far}
use Rattle.ground.specs.Rows.{at}
use Rattle.tree.specs.Recompute.{through_neighbours, preferred, taken_links, tree_over, shortest_tree, recomputed}
use Rattle.tree.specs.Shortest.{shortest_within}
use Rattle.tree.specs.Tree.{distance_within, is_tree}
use Rattle.rules.specs.Event.{is_alone, is_sent_update, differences_for, new_awaited, message_to, reaction_by, changes_nothing, changed, noted, new_tree, new_feasible, reaction, message_refusal}
use Rattle.rules.specs.Message.{body_bytes, differences, applied, written}
use Rattle.rules.specs.Network.{with_queue, reacted, happens, overflows, step_to, bad_ends, Network, Call, up, cost, down, deliver, unit_at, queue, next_message, fresh, fresh_refusal, outcome, refusal_of, call_refusal, step}
use Rattle.rules.specs.Tracer.{Trace, arrived, stranded, circling, trace_from, trace, hops}
use Rattle.rules.specs.Unit.{is_successor, fresh_unit, is_active, successors, own_distance}

-- A figure: what is found, and what the paper says.
pub record Figure : Type 0 where
  pub found : List ℕ
  pub paper : List ℕ

infix 15 ◌is◌
abbrev ◌is◌ : (found paper : List ℕ) → Figure
found is paper = record { found = found; paper = paper }

-- The network after some calls, and the numbers of their refusals, 0 for a call that is accepted.
after : Network → List Call → Network
after net [] = net
after net (call ∷ rest) = after (step net call) rest

answers : Network → List Call → List ℕ
answers net [] = []
answers net (call ∷ rest) = call_refusal net call ∷ answers (step net call) rest

-- What unit i shows for destination j: its state, the distance, the feasible distance, then the successors.
abbrev ACTIVE : ℕ
ACTIVE = 1

abbrev PASSIVE : ℕ
PASSIVE = 0

shows : Network → (i j : ℕ) → List ℕ
shows net i j =
    (if is_active (unit_at net i) then ACTIVE else PASSIVE)
    ∷ own_distance (unit_at net i) j
    ∷ at (unit_at net i).feasible j
    ∷ successors (unit_at net i) j

-- The number of messages in a queue, and the bytes of the one at a place.
queued : Network → (a b : ℕ) → ℕ
queued net a b = length (queue net a b)

bytes_at : Network → (a b place : ℕ) → List ℕ
bytes_at net a b place = written (next_message (drop place (queue net a b)))

-- The hops of a trace that arrived, then its path; 99 for any other ending.
arrival : Trace → List ℕ
arrival t = (elim t.ending [ arrived ↦ hops t | stranded ↦ 99 | circling ↦ 99 ]) ∷ t.path

-- "Two units, up 0-1 at costs 5 and 7.", and what is called then.
two : List Call → Network
two calls = after (fresh 2) (up 0 1 5 7 ∷ calls)

-- One delivery for each direction of the triangle's links; one from an empty queue is refused and changes nothing.
deliveries : List Call
deliveries = deliver 0 1 ∷ deliver 1 0 ∷ deliver 1 2 ∷ deliver 2 1 ∷ deliver 0 2 ∷ deliver 2 0 ∷ []

-- "Triangle: both directions alike, 0-1 at 1, 1-2 at 1, 0-2 at 5, all delivered.", and what is called then.
triangle : List Call → Network
triangle calls =
    after (fresh 3)
    ((up 0 1 1 1 ∷ up 1 2 1 1 ∷ up 0 2 5 5 ∷ []) ++ deliveries ++ deliveries ++ deliveries ++ deliveries ++ deliveries ++ calls)

-- "In the triangle cost 1 to 2 becomes 10 at unit 1", "Then delivery 1 to 0", "Then 0 to 1, 1 to 2, 2 to 1".
dearer : List Call
dearer = cost 1 2 10 ∷ []

told : List Call
told = cost 1 2 10 ∷ deliver 1 0 ∷ []

answered : List Call
answered = deliver 0 1 ∷ deliver 1 2 ∷ deliver 2 1 ∷ []

pub table : List Figure
table =
    -- P1: counts 1 and 17 refused 1; 2 and 16 accepted
    (map fresh_refusal (1 ∷ 17 ∷ 2 ∷ 16 ∷ []) is (1 ∷ 1 ∷ 0 ∷ 0 ∷ []))
    -- P2: costs 0 and 65,536 refused 4; 1 and 65,535 accepted: at either end of a link that comes up, and of a changed cost
    ∷ (map (λ c. call_refusal (fresh 2) (up 0 1 c 1)) (0 ∷ 65536 ∷ 1 ∷ 65535 ∷ []) is (4 ∷ 4 ∷ 0 ∷ 0 ∷ []))
    ∷ (map (λ c. call_refusal (fresh 2) (up 0 1 1 c)) (0 ∷ 65536 ∷ 1 ∷ 65535 ∷ []) is (4 ∷ 4 ∷ 0 ∷ 0 ∷ []))
    ∷ (map (λ c. call_refusal (two []) (cost 0 1 c)) (0 ∷ 65536 ∷ 1 ∷ 65535 ∷ []) is (4 ∷ 4 ∷ 0 ∷ 0 ∷ []))
    -- P3: both ACTIVE; distance, feasible distance, successor
    ∷ (shows (two []) 0 1 is (ACTIVE ∷ 5 ∷ 5 ∷ 1 ∷ []))
    ∷ (shows (two []) 1 0 is (ACTIVE ∷ 7 ∷ 7 ∷ 0 ∷ []))
    -- P4: the message from 0
    ∷ (bytes_at (two []) 0 1 0 is (0x01 ∷ 0x00 ∷ 0x02 ∷ 0x01 ∷ 0x01 ∷ 0x00 ∷ 0x00 ∷ 0x05 ∷ []))
    -- P5: unit 1 still ACTIVE, two messages queued 1 to 0, and the second
    ∷ (shows (two (deliver 0 1 ∷ [])) 1 0 is (ACTIVE ∷ 7 ∷ 7 ∷ 0 ∷ []))
    ∷ (queued (two (deliver 0 1 ∷ [])) 1 0 ∷ bytes_at (two (deliver 0 1 ∷ [])) 1 0 1 is (2 ∷ 0x01 ∷ 0x01 ∷ 0x01 ∷ 0x00 ∷ []))
    -- P6: both PASSIVE, unreachable, feasible unreachable, no successor, queues empty
    ∷ (shows (two (down 0 1 ∷ [])) 0 1 is (PASSIVE ∷ far ∷ far ∷ []))
    ∷ (shows (two (down 0 1 ∷ [])) 1 0 is (PASSIVE ∷ far ∷ far ∷ []))
    ∷ (queued (two (down 0 1 ∷ [])) 0 1 ∷ queued (two (down 0 1 ∷ [])) 1 0 ∷ [] is (0 ∷ 0 ∷ []))
    -- the triangle, all delivered
    ∷ (answers (triangle []) deliveries is (8 ∷ 8 ∷ 8 ∷ 8 ∷ 8 ∷ 8 ∷ []))
    -- P7: unit 0 to 2; P8: unit 0 to 1, where unit 2 is as far from 1 as unit 0 is
    ∷ (shows (triangle []) 0 2 is (PASSIVE ∷ 2 ∷ 2 ∷ 1 ∷ 2 ∷ []))
    ∷ (shows (triangle []) 0 1 is (PASSIVE ∷ 1 ∷ 1 ∷ 1 ∷ []))
    -- P9: the hops, then the path
    ∷ (arrival (trace (triangle []) 0 2 (0 ∷ 0 ∷ [])) is (2 ∷ 0 ∷ 1 ∷ 2 ∷ []))
    ∷ (arrival (trace (triangle []) 0 2 (1 ∷ 1 ∷ [])) is (1 ∷ 0 ∷ 2 ∷ []))
    -- P10: unit 1 to 2, and what it sent units 0 and 2: "set 2: 1, 10"
    ∷ (shows (triangle dearer) 1 2 is (ACTIVE ∷ 10 ∷ 1 ∷ 2 ∷ []))
    ∷ (bytes_at (triangle dearer) 1 0 0 is (1 ∷ 1 ∷ 2 ∷ 1 ∷ 2 ∷ 1 ∷ 0 ∷ 10 ∷ []))
    ∷ (bytes_at (triangle dearer) 1 2 0 is (1 ∷ 1 ∷ 2 ∷ 1 ∷ 2 ∷ 1 ∷ 0 ∷ 10 ∷ []))
    -- P11: unit 0 to 2
    ∷ (shows (triangle told) 0 2 is (ACTIVE ∷ 5 ∷ 2 ∷ 2 ∷ []))
    -- P12: unit 1 to 2, ACTIVE again
    ∷ (answers (triangle told) answered is (0 ∷ 0 ∷ 0 ∷ []))
    ∷ (shows (triangle (told ++ answered)) 1 2 is (ACTIVE ∷ 6 ∷ 6 ∷ 0 ∷ 2 ∷ []))
    ∷ []

pub figures : map (λ f. f.found) table ≡ map (λ f. f.paper) table
unfolding table two deliveries triangle dearer told answered after answers shows queued bytes_at arrival through_neighbours preferred taken_links tree_over shortest_tree recomputed shortest_within distance_within is_tree noted new_tree new_feasible reaction message_refusal differences applied written fresh outcome refusal_of step trace_from fresh_unit is_active successors is_successor with_queue reacted happens overflows step_to bad_ends body_bytes is_alone is_sent_update differences_for new_awaited message_to reaction_by changes_nothing changed
figures = refl
