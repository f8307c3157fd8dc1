-- Rule: the lent tables of a network and of a meter over it, and what becomes of them "after any sequence": any finite sequence
-- of network calls and meter calls mixed, with any arguments, refused ones included, each leaving the tables that its contract
-- gives; the calls of the meter that were accepted; and the units that a frame meets.
use Rattle.std.specs.Prelude.{ℕ, ◌&&◌, List, [], ◌∷◌, ◌≡◌, eqb}
use Rattle.std.specs.Prelude.{if◌then◌else◌}
use Rattle.ground.specs.Refusal.{accepted}
use Rattle.rules.specs.Network.{Call}
use Rattle.frames.specs.Account.{Accepted, is_about}
use Rattle.frames.specs.Meter.{Meter, frame_at, MeterCall, enters, moves, drops, Fate, as_held, as_delivered, as_dropped, fate}
use Rattle.frames.specs.MeterTable.{meter_from, meter_refusal, meter_after, fresh_meter_table}
use Rattle.lasting.specs.ReachedTables.{Tables, after, fresh_tables}

-- The tables of a network, and of a meter over it.
pub record MeteredTables : Type 0 where
  pub network : Tables
  pub meter : List ℕ

-- The meter that they hold.
abbrev pub meter_of : MeteredTables → Meter
meter_of t = meter_from t.meter

-- "network calls and meter calls mixed"
pub data MixedCall : Type 0 where
  of_network : Call → MixedCall
  of_meter : MeterCall → MixedCall

-- A meter call's refusal, or none, and the tables that a call leaves by its contract.
abbrev pub refusal_in : MeteredTables → MeterCall → ℕ
refusal_in t call = meter_refusal t.network.words t.network.bytes t.meter call

unfoldable pub after_mixed : MeteredTables → MixedCall → MeteredTables
after_mixed t (of_network call) = record { network = after t.network call; meter = t.meter }
after_mixed t (of_meter call) =
    record { network = t.network; meter = meter_after t.network.words t.network.bytes t.meter call }

-- "after any sequence", "refused ones included"
unfoldable pub run_mixed : MeteredTables → List MixedCall → MeteredTables
run_mixed t [] = t
run_mixed t (call ∷ rest) = run_mixed (after_mixed t call) rest

-- The accepted calls of the meter, in their order, each with what its answer says of its frame.
unfoldable pub accepted_of : MeteredTables → List MixedCall → List Accepted
accepted_of t [] = []
accepted_of t (of_network call ∷ rest) = accepted_of (after_mixed t (of_network call)) rest
accepted_of t (of_meter call ∷ rest) =
    let later = accepted_of (after_mixed t (of_meter call)) rest in
    if eqb (refusal_in t call) accepted then record { call = call; fate = fate (meter_of t) call } ∷ later else later

-- "from a fresh network and a fresh meter", in any tables that are lent.
abbrev pub fresh_metered : (words bytes meter : List ℕ) (n : ℕ) → MeteredTables
fresh_metered words bytes meter n = record { network = fresh_tables words bytes n; meter = fresh_meter_table meter }

-- Calls among which the network's tables stay as they are.
pub data Stays (network : Tables) : List MixedCall → Type 0 where
  still : Stays network []
  metering : {call : MeterCall} {rest : List MixedCall} → Stays network rest → Stays network (of_meter call ∷ rest)
  keeping : {call : Call} {rest : List MixedCall} → after network call ≡ network → Stays network rest
      → Stays network (of_network call ∷ rest)

-- The unit that a frame goes to by a call that ends it.
abbrev pub last_unit : MeterCall → List ℕ
last_unit (enters size unit destination) = []
last_unit (moves place unit) = unit ∷ []
last_unit (drops place) = []

-- The units after the one that a frame is at, where a call about it has a fate and `next` is what it meets from then on.
abbrev pub goes_on_by : MeterCall → Fate → (next : List ℕ) → List ℕ
goes_on_by call (as_held place) next = next
goes_on_by call as_delivered next = last_unit call
goes_on_by call as_dropped next = last_unit call

-- The units that the frame at a place meets, the one that it is at first, over calls one after the other.
unfoldable pub units_met : MeteredTables → (place : ℕ) → List MixedCall → List ℕ
units_met t place [] = (frame_at (meter_of t) place).unit ∷ []
units_met t place (of_network call ∷ rest) = units_met (after_mixed t (of_network call)) place rest
units_met t place (of_meter call ∷ rest) =
    let next = units_met (after_mixed t (of_meter call)) place rest in
    if is_about place call && eqb (refusal_in t call) accepted
    then (frame_at (meter_of t) place).unit ∷ goes_on_by call (fate (meter_of t) call) next
    else next
