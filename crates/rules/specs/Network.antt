-- Rule: the network of units with its queues: link up, cost, link down and delivery.
use Rattle.std.specs.Prelude.{ℕ, Bool, not, ◌&&◌, ◌||◌, List, [], ◌++◌, eqb, ltb, leb, length, get_or, set, drop}
use Rattle.std.specs.Bool.{beq}
use Rattle.std.specs.Prelude.{if◌then◌else◌}
use Rattle.ground.specs.Limits.{legal_count, legal_cost, queue_room}
use Rattle.ground.specs.Refusal.{accepted, ◌gives◌, ◌otherwise◌}
use Rattle.ground.specs.Rows.{tab, every, some}
use Rattle.rules.specs.Event.{Event, received, link_up, new_cost, link_down, Reaction, reaction, message_refusal}
use Rattle.rules.specs.Message.{Message, legal_message}
use Rattle.rules.specs.Unit.{Unit, fresh_unit, fit_unit, is_neighbour, is_successor, successors}

-- "A queue for each direction of each link: first in, first out". A row of queues for each unit that sends, a queue for
-- each unit that is sent to, its first message first.
pub record Network : Type 0 where
  pub count : ℕ
  pub units : List Unit
  pub queues : List (List (List Message))

abbrev pub unit_at : Network → (i : ℕ) → Unit
unit_at net i = get_or net.units i (fresh_unit 0 0)

abbrev pub queue : Network → (a b : ℕ) → List Message
queue net a b = get_or (get_or net.queues a []) b []

-- Whether a's end of its link with b is up; and whether the link is. "Link up and link down reach both ends in one step",
-- so one end tells of both, but for "a link up at one end only", which is unfit.
abbrev pub is_end_up : Network → (a b : ℕ) → Bool
is_end_up net a b = is_neighbour (unit_at net a) b

abbrev pub is_up : Network → (a b : ℕ) → Bool
is_up net a b = is_end_up net a b

-- The successors of unit i for destination j that a path may go on to, over links that are up: whether unit k is one, and
-- all of them, rising.
abbrev pub is_successor_in : Network → (i j k : ℕ) → Bool
is_successor_in net i j k = is_successor (unit_at net i) j k

abbrev pub successors_in : Network → (i j : ℕ) → List ℕ
successors_in net i j = successors (unit_at net i) j

-- "Fresh: all links down, trees and queues empty"; refused with 1 where the "unit count [is] not 2 to 16".
unfoldable pub fresh : (n : ℕ) → Network
fresh n = record { count = n; units = tab n (fresh_unit n); queues = tab n (λ a. tab n (λ b. [])) }

abbrev pub fresh_refusal : (n : ℕ) → ℕ
fresh_refusal n = not (legal_count n) gives 1

-- The network with another queue from a to b.
unfoldable pub with_queue : Network → (a b : ℕ) → List Message → Network
with_queue net a b messages =
    record {
      count = net.count;
      units = net.units;
      queues = set net.queues a (set (get_or net.queues a []) b messages);
    }

-- The network once unit i has reacted: its new tables, and what it sent at the ends of its queues.
unfoldable pub reacted : Network → (i : ℕ) → Reaction → Network
reacted net i r =
    record {
      count = net.count;
      units = set net.units i r.unit;
      queues = set net.queues i (tab net.count (λ k. queue net i k ++ get_or r.sent k []));
    }

unfoldable pub happens : Network → (i : ℕ) → Event → Network
happens net i e =
    let r = reaction (unit_at net i) e in
    reacted net i r

-- The calls that change a network.
pub data Call : Type 0 where
  up : (a b costOfA costOfB : ℕ) → Call
  cost : (a b c : ℕ) → Call
  down : (a b : ℕ) → Call
  deliver : (a b : ℕ) → Call

-- "first in": the message that a delivery takes.
abbrev pub next_message : List Message → Message
next_message messages = get_or messages 0 (record { kind = 0; sender = 0; changes = [] })

-- "Link up and link down reach both ends in one step: each end has its event". "Down empties both queues of the link
-- first. A cost change is an event at the named end only".
unfoldable pub outcome : Network → Call → Network
outcome net (up a b costOfA costOfB) =
    let one = happens net a (link_up b costOfA) in
    happens one b (link_up a costOfB)
outcome net (cost a b c) = happens net a (new_cost b c)
outcome net (down a b) =
    let emptied = with_queue (with_queue net a b []) b a [] in
    let one = happens emptied a (link_down b) in
    happens one b (link_down a)
outcome net (deliver a b) =
    happens (with_queue net a b (drop 1 (queue net a b))) b (received (next_message (queue net a b)))

-- 3: "a unit number not below the count; for links, costs, messages and deliveries also two equal ends"
unfoldable pub bad_ends : (n a b : ℕ) → Bool
bad_ends n a b = not (ltb a n) || not (ltb b n) || eqb a b

-- 5: "link up asked, already up"; 6: "cost, down, delivery or message for a link not up". A call asks for a link, or is
-- about one that should be up.
abbrev pub link_refusal : (linked asks : Bool) → ℕ
link_refusal linked asks = if asks then linked gives 5 else (not linked) gives 6

-- 13: "some queue would pass 4 messages"
unfoldable pub overflows : Network → Bool
overflows net =
    some net.count (λ a. some net.count (λ b. ltb queue_room (length (queue net a b))))

-- The refusals of a call on a fit network, where `result` is its outcome.
unfoldable pub refusal_of : Network → Call → (result : Network) → ℕ
refusal_of net (up a b costOfA costOfB) result =
    bad_ends net.count a b gives 3
    otherwise not (legal_cost costOfA && legal_cost costOfB) gives 4
    otherwise is_up net a b gives 5
    otherwise overflows result gives 13
refusal_of net (cost a b c) result =
    bad_ends net.count a b gives 3
    otherwise not (legal_cost c) gives 4
    otherwise not (is_up net a b) gives 6
    otherwise overflows result gives 13
refusal_of net (down a b) result =
    bad_ends net.count a b gives 3
    otherwise not (is_up net a b) gives 6
    otherwise overflows result gives 13
refusal_of net (deliver a b) result =
    bad_ends net.count a b gives 3
    otherwise not (is_up net a b) gives 6
    otherwise eqb (length (queue net a b)) 0 gives 8
    otherwise message_refusal (unit_at net b) (next_message (queue net a b))
    otherwise overflows result gives 13

abbrev pub call_refusal : Network → Call → ℕ
call_refusal net call = refusal_of net call (outcome net call)

-- "A refusal returns its number alone and changes nothing."
unfoldable pub step_to : Network → Call → (result : Network) → Network
step_to net call result = if eqb (refusal_of net call result) accepted then result else net

unfoldable pub step : Network → Call → Network
step net call =
    let result = outcome net call in
    step_to net call result

-- What refusal 2 looks at between units: "a link up at one end only", "a queued message against the layout or not from
-- its sender", "a .. queued message on a link that is down", a queue of more than 4.
unfoldable pub fit_queued : (n sender : ℕ) → Message → Bool
fit_queued n sender m = legal_message n m && eqb m.sender sender

unfoldable pub fit_queue : Network → (a b : ℕ) → Bool
fit_queue net a b =
    leb (length (queue net a b)) queue_room
    && (is_up net a b || eqb (length (queue net a b)) 0)
    && every (length (queue net a b)) (λ i. fit_queued net.count a (next_message (drop i (queue net a b))))

unfoldable pub fit_network : Network → Bool
fit_network net =
    legal_count net.count
    && every net.count (λ i.
    eqb (unit_at net i).count net.count && eqb (unit_at net i).me i && fit_unit (unit_at net i))
    && every net.count (λ a. every net.count (λ b. beq (is_end_up net a b) (is_end_up net b a) && fit_queue net a b))
