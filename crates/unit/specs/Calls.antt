-- Order: a unit's calls as the code has them, and what step A makes of one; and the refusals of calls in parts: those about the
-- table and the link's ends, those about the link, and those of a message's content. proofs/LinkRefusals.antt and
-- proofs/MessageCalls.antt show that together they are `table_refusal`.
use Rattle.std.specs.Prelude.{ℕ, ◌<◌, Bool, true, not, ◌&&◌, List, ◌≡◌, eqb, unwrap_or}
use Rattle.ground.specs.Limits.{legal_count}
use Rattle.ground.specs.Refusal.{accepted, ◌gives◌, ◌otherwise◌}
use Rattle.ground.specs.Rows.{at}
use Rattle.rules.specs.Event.{noted, new_of, owed_of, message_refusal}
use Rattle.rules.specs.Hub.{HubCall, hub_up, hub_cost, hub_down, hub_message, event_of, too_short}
use Rattle.rules.specs.Message.{message_of, readable}
use Rattle.rules.specs.Network.{bad_ends, link_refusal}
use Rattle.rules.specs.Tables.{unit_from, fit_unit_table}
use Rattle.rules.specs.Unit.{Unit, is_neighbour}
use Rattle.state.specs.Holding.{held_of, unit_of}
use Rattle.state.specs.declared.held.Held.{Held}
use Rattle.unit.specs.Noting.{Padded}
use Rattle.unit.specs.declared.calls.Call.{Call}
use Rattle.unit.specs.declared.calls.Call.TheVariants.{Up, Cost, Down, Message}
use Rattle.unit.specs.declared.calls.Noted.{Noted}

-- 2 and 3.
abbrev pub end_refusal : (words : List ℕ) (to : ℕ) → ℕ
end_refusal words to =
    not (fit_unit_table words) gives 2 otherwise bad_ends (unit_from words).count (unit_from words).me to gives 3

-- The cost of the link to a unit.
abbrev pub cost_in : (words : List ℕ) (to : ℕ) → ℕ
cost_in words to = at (unit_from words).costs to

-- 4 to 7 after them, of a call about the link to a unit: whether its cost is legal, and whether it asks for the link.
abbrev pub link_rest : Unit → (room to : ℕ) (legal asks : Bool) → ℕ
link_rest u room to legal asks =
    not legal gives 4 otherwise link_refusal (is_neighbour u to) asks otherwise too_short room gives 7

abbrev pub first_refusal : (words : List ℕ) (room to : ℕ) (legal asks : Bool) → ℕ
first_refusal words room to legal asks = end_refusal words to otherwise link_rest (unit_from words) room to legal asks

-- 9 to 12, of bytes that came by a link that is up.
abbrev pub content_refusal : Unit → (from : ℕ) (bytes : List ℕ) → ℕ
content_refusal u from bytes =
    not (readable u.count bytes && eqb (message_of bytes).sender from) gives 9
    otherwise message_refusal u (message_of bytes)

-- The call that the rules speak of, with the bytes that come beside it; and the unit that it is about.
abbrev pub call_of : Call → (bytes : List ℕ) → HubCall
call_of (Up to cost) bytes = hub_up to cost
call_of (Cost to cost) bytes = hub_cost to cost
call_of (Down to) bytes = hub_down to
call_of (Message from) bytes = hub_message from bytes

abbrev pub end_of : Call → ℕ
end_of (Up to cost) = to
end_of (Cost to cost) = to
end_of (Down to) = to
end_of (Message from) = from

-- What a call's bytes are where nothing refuses it: a message's are a message from the unit that it is about.
abbrev pub MessageFrom : (n : ℕ) → Call → (bytes : List ℕ) → Type 0
MessageFrom n (Up to cost) bytes = accepted ≡ 0
MessageFrom n (Cost to cost) bytes = accepted ≡ 0
MessageFrom n (Down to) bytes = accepted ≡ 0
MessageFrom n (Message from) bytes = (readable n bytes ≡ true) × ((message_of bytes).sender ≡ from)

-- What step A needs of a call: arrays that hold a unit, with a place for the unit that the call is about.
pub record Notable (h : Held) (call : Call) (bytes : List ℕ) : Type 0 where
  pub padded : Padded h
  pub legal : legal_count h.count ≡ true
  pub below : end_of call < h.count
  pub message : MessageFrom h.count call bytes

-- What it leaves: the rules have the count where there is no neighbour.
pub record NotedBy (h : Held) (call : Call) (bytes : List ℕ) (done : Noted) : Type 0 where
  pub unit : done.unit ≡ held_of (noted (unit_of h) (event_of (call_of call bytes)))
  pub new : unwrap_or done.new h.count ≡ new_of h.count (event_of (call_of call bytes))
  pub owed : unwrap_or done.owed h.count ≡ owed_of h.count (event_of (call_of call bytes))
