-- `unit::calls::note` meets its contract: each call's event is noted by its own function.
use Prim.Native.Nat.{ℕ}
use mathlib.Core.List.{List}
use mathlib.Core.Path.{◌≡◌, refl}
use Rattle.state.specs.declared.held.Held.{Held}
use Rattle.unit.specs.Calls.{Notable, NotedBy}
use Rattle.unit.specs.declared.calls.Call.{Call}
use Rattle.unit.specs.declared.calls.Noted.{Noted}
use Rattle.unit.proofs.calls.note.Goals as goal

-- What is asked of a call that is known.
asked : (unit : Held) (bytes : List ℕ) {made call : Call} → Notable unit made bytes → made ≡ call
    → Notable unit call bytes
asked unit bytes notable e = rw e at notable

-- What a call that is known leaves.
by_call : (unit : Held) (bytes : List ℕ) {made call : Call} {done : Noted} → made ≡ call
    → NotedBy unit call bytes done → NotedBy unit made bytes done
by_call unit bytes {made} {call} {done} e told = rw e told

pub link_up-requires : goal.link_up-requires
link_up-requires c =
    let known = asked c.args.unit c.args.bytes.now c.requires c.in-Up.is in
    (known.padded, known.below)

pub new_cost-requires : goal.new_cost-requires
new_cost-requires c =
    let known = asked c.args.unit c.args.bytes.now c.requires c.in-Cost.is in
    (known.padded, known.below)

pub link_down-requires : goal.link_down-requires
link_down-requires c =
    let known = asked c.args.unit c.args.bytes.now c.requires c.in-Down.is in
    (known.padded, known.below)

pub take-requires : goal.take-requires
take-requires c = asked c.args.unit c.args.bytes.now c.requires c.in-Message.is

pub returns-in-Up : goal.returns-in-Up
returns-in-Up c =
    by_call c.args.unit c.args.bytes.now c.in-Up.is (record { unit = c.link_up.ensures; new = refl; owed = refl })

pub returns-in-Cost : goal.returns-in-Cost
returns-in-Cost c =
    by_call c.args.unit c.args.bytes.now c.in-Cost.is (record { unit = c.new_cost.ensures; new = refl; owed = refl })

pub returns-in-Down : goal.returns-in-Down
returns-in-Down c =
    by_call c.args.unit c.args.bytes.now c.in-Down.is (record { unit = c.link_down.ensures; new = refl; owed = refl })

pub returns-in-Message : goal.returns-in-Message
returns-in-Message c = by_call c.args.unit c.args.bytes.now c.in-Message.is c.take.ensures
