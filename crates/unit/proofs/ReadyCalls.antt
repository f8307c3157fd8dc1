-- Calls that nothing refuses: what it tells of the table and of the unit once the event is noted, and that the code's
-- reaction is then the rules'.
use Prim.Native.Nat.{ℕ, ◌≤◌, ◌<◌}
use native.Mathlib.Omega.{arith}
use mathlib.Core.Bool.{Bool, true, false, ◌&&◌}
use mathlib.Core.List.{List}
use mathlib.Core.Logic.{◌≢◌, ◌⊎◌, inl, inr, ⊎_elim}
use mathlib.Core.Path.{◌≡◌, refl, sym, ap, ◌∙◌}
use borrow.Author.Tests.{leb-true, le-leb}
use lib.Dec.{leb}
use Rattle.std.specs.Prelude.{unwrap_or}
use Rattle.ground.specs.Limits.{unit_limit, firmware_room, legal_cost, highest_cost}
use Rattle.ground.specs.Refusal.{accepted}
use Rattle.rules.specs.Event.{Event, noted, new_of, owed_of, reaction_by}
use Rattle.rules.specs.Hub.{hub_up, hub_cost, hub_down, hub_message, event_of, table_refusal, table_reaction}
use Rattle.rules.specs.Message.{message_of, holds_update}
use Rattle.rules.specs.Tables.{unit_from, fit_unit_table}
use Rattle.rules.specs.Unit.{Unit, is_active, fit_unit}
use Rattle.state.specs.Holding.{held_of, unit_of, held_from}
use Rattle.state.specs.declared.held.Held.{Held}
use Rattle.unit.specs.Calls.{call_of, end_of, MessageFrom, Notable}
use Rattle.unit.specs.Calls.{NotedBy}
use Rattle.unit.specs.Reacted.{FitHeld}
use Rattle.unit.specs.declared.calls.Call.{Call}
use Rattle.unit.specs.declared.calls.Call.TheVariants.{Up, Cost, Down, Message}
use Rattle.unit.specs.declared.calls.Noted.{Noted}
use Rattle.ground.proofs.Choices.{by_choice}
use Rattle.ground.proofs.Limits.{count_legal}
use Rattle.ground.proofs.Tests.{both}
use Rattle.rules.proofs.Applied.{noted_shaped}
use Rattle.rules.proofs.Fit.{fit_unit_shaped}
use Rattle.rules.proofs.FitUnit.{FitFacts, facts_fit, fit_table_facts}
use Rattle.rules.proofs.Laid.{ShapedUnit}
use Rattle.rules.proofs.Noted.{up_fit, cost_fit, down_fit}
use Rattle.rules.proofs.Reacting.{reaction-by, noted_count, noted_me}
use Rattle.state.proofs.Holding.{holds_back}
use Rattle.state.proofs.Tables.{held_fit}
use Rattle.unit.proofs.HeldFit.{fit_held}
use Rattle.unit.proofs.MessageCalls.{welcome}
use Rattle.unit.proofs.NotedArrays.{padded_held}
use Rattle.unit.proofs.LinkRefusals.{Ends, passed, linked_up, up_parts, cost_parts, down_parts}

-- What it tells that nothing refuses a call: the table is fit, the unit that the call is about is another one, the room is
-- enough, the bytes are what the call needs, and the unit is still fit once the event is noted.
pub record Ready (words : List ℕ) (room : ℕ) (call : Call) (bytes : List ℕ) : Type 0 where
  pub fit : fit_unit_table words ≡ true
  pub below : end_of call < (unit_from words).count
  pub other : end_of call ≢ (unit_from words).me
  pub enough : firmware_room ≤ room
  pub message : MessageFrom (unit_from words).count call bytes
  pub fitted : fit_unit (noted (unit_from words) (event_of (call_of call bytes))) ≡ true

-- Who is owed an acknowledgment is the unit that the call is about, or nobody.
owed_which : (n : ℕ) (call : Call) (bytes : List ℕ) → MessageFrom n call bytes
    → (owed_of n (event_of (call_of call bytes)) ≡ end_of call) ⊎ (owed_of n (event_of (call_of call bytes)) ≡ n)
owed_which n (Up to cost) bytes m = inr refl
owed_which n (Cost to cost) bytes m = inr refl
owed_which n (Down to) bytes m = inr refl
owed_which n (Message from) bytes m =
    by_choice (λ (x : ℕ). (x ≡ from) ⊎ (x ≡ n)) (holds_update (message_of bytes)) _ _ (λ t. inl m.1) (λ t. inr refl)

-- A table that nothing refuses, its unit in arrays, and the event noted in them.
module _ (words : List ℕ) (room : ℕ) (call : Call) (bytes : List ℕ) (here : Ready words room call bytes) {loaded : Held}
    (l : loaded ≡ held_from words) where
  abbrev u : Unit
  u = unit_from words

  abbrev event : Event
  event = event_of (call_of call bytes)

  facts : FitFacts u
  facts = fit_table_facts words here.fit

  shaped : ShapedUnit u
  shaped = fit_unit_shaped words here.fit

  held : loaded ≡ held_of u
  held = l ∙ held_fit words here.fit

  unit : unit_of loaded ≡ u
  unit = ap unit_of held ∙ holds_back u shaped

  count : loaded.count ≡ u.count
  count = ap (λ (h : Held). h.count) held

  -- The event can be noted in the arrays.
  pub notable : Notable loaded call bytes
  notable =
      record {
        padded = rw held (padded_held u shaped);
        legal = rw count (count_legal u.count facts.low facts.high);
        below = rw count here.below;
        message = rw count here.message;
      }

  module _ {done : Noted} (p : NotedBy loaded call bytes done) where
    noted_held : done.unit ≡ held_of (noted u event)
    noted_held = p.unit ∙ ap (λ (v : Unit). held_of (noted v event)) unit

    -- They hold a fit unit then.
    pub ready : FitHeld done.unit
    ready = rw noted_held (fit_held (noted u event) (noted_shaped u shaped event) here.fitted)

    -- Where there is nobody, the count says so.
    same_count : done.unit.count ≡ loaded.count
    same_count = ap (λ (h : Held). h.count) noted_held ∙ noted_count u event ∙ sym count

    new : unwrap_or done.new done.unit.count ≡ new_of u.count event
    new = ap (unwrap_or done.new) same_count ∙ p.new ∙ ap (λ (n : ℕ). new_of n event) count

    owed : unwrap_or done.owed done.unit.count ≡ owed_of u.count event
    owed = ap (unwrap_or done.owed) same_count ∙ p.owed ∙ ap (λ (n : ℕ). owed_of n event) count

    -- Nobody is owed but another unit.
    pub owed_other : unwrap_or done.owed done.unit.count ≢ done.unit.me
    owed_other same =
        let me : done.unit.me ≡ u.me = ap (λ (h : Held). h.me) noted_held ∙ noted_me u event in
        ⊎_elim
        (λ e. here.other (sym e ∙ sym owed ∙ same ∙ me))
        (λ e. omega (arith, owed, e, same, me, facts.me))
        (owed_which u.count call bytes here.message)

    -- The code's reaction is the rules'.
    pub same_reaction : {was : Bool} → was ≡ (leb loaded.count unit_limit && is_active (unit_of loaded))
        → reaction_by (unit_of done.unit) was (unwrap_or done.new done.unit.count) (unwrap_or done.owed done.unit.count)
        ≡ table_reaction words (call_of call bytes)
    same_reaction {was} w =
        let active : was ≡ is_active u = w ∙ ap (λ (h : Held). leb h.count unit_limit && is_active (unit_of h)) held
        ∙ rw (le-leb u.count unit_limit facts.high) (ap is_active (holds_back u shaped)) in
        let after : unit_of done.unit ≡ noted u event =
        ap unit_of noted_held ∙ holds_back (noted u event) (noted_shaped u shaped event) in
        let owes = unwrap_or done.owed done.unit.count in
        ap (λ (v : Unit). reaction_by v was (unwrap_or done.new done.unit.count) owes) after
        ∙ ap (λ (t : Bool). reaction_by (noted u event) t (unwrap_or done.new done.unit.count) owes) active
        ∙ ap (λ (k : ℕ). reaction_by (noted u event) (is_active u) k owes) new
        ∙ ap (reaction_by (noted u event) (is_active u) (new_of u.count event)) owed
        ∙ sym (reaction-by u event)

module _ (words : List ℕ) (room to : ℕ) where
  abbrev U : Unit
  U = unit_from words

  table : Ends words to → ShapedUnit U
  table h = fit_unit_shaped words h.fit

  fits : Ends words to → fit_unit U ≡ true
  fits h = facts_fit U h.facts

  cost-of : (cost : ℕ) → legal_cost cost ≡ true → (1 ≤ cost) × (cost ≤ highest_cost)
  cost-of cost e =
      let legal = both (leb 1 cost) (leb cost highest_cost) e in
      (leb-true 1 cost legal.0, leb-true cost highest_cost legal.1)

  up_ready : (cost : ℕ) (bytes : List ℕ) → table_refusal words room (hub_up to cost) ≡ accepted
      → Ready words room (Up to cost) bytes
  up_ready cost bytes e =
      let p = passed words room to (legal_cost cost) true (up_parts words room to cost) e in
      let legal = cost-of cost p.cost in
      record {
        fit = p.ends.fit;
        below = p.ends.below;
        other = p.ends.other;
        enough = p.roomy;
        message = refl;
        fitted =
            up_fit U (table p.ends) (fits p.ends) to cost p.ends.below p.ends.other legal.0 legal.1;
      }

  cost_ready : (cost : ℕ) (bytes : List ℕ) → table_refusal words room (hub_cost to cost) ≡ accepted
      → Ready words room (Cost to cost) bytes
  cost_ready cost bytes e =
      let p = passed words room to (legal_cost cost) false (cost_parts words room to cost) e in
      let legal = cost-of cost p.cost in
      record {
        fit = p.ends.fit;
        below = p.ends.below;
        other = p.ends.other;
        enough = p.roomy;
        message = refl;
        fitted =
            cost_fit U (table p.ends) (fits p.ends) to cost p.ends.below (linked_up words to p.link) legal.0 legal.1;
      }

  down_ready : (bytes : List ℕ) → table_refusal words room (hub_down to) ≡ accepted → Ready words room (Down to) bytes
  down_ready bytes e =
      let p = passed words room to true false (down_parts words room to) e in
      record {
        fit = p.ends.fit;
        below = p.ends.below;
        other = p.ends.other;
        enough = p.roomy;
        message = refl;
        fitted = down_fit U (table p.ends) (fits p.ends) to p.ends.below;
      }

  message_ready : (bytes : List ℕ) → table_refusal words room (hub_message to bytes) ≡ accepted
      → Ready words room (Message to) bytes
  message_ready bytes e =
      let w = welcome words room to bytes e in
      record {
        fit = w.link.ends.fit;
        below = w.link.ends.below;
        other = w.link.ends.other;
        enough = w.link.roomy;
        message = (w.legible, w.sender);
        fitted = w.noted_fit;
      }

-- A call that nothing refuses is ready.
pub ready_of : (words : List ℕ) (room : ℕ) (call : Call) (bytes : List ℕ)
    → table_refusal words room (call_of call bytes) ≡ accepted → Ready words room call bytes
ready_of words room (Up to cost) bytes e = up_ready words room to cost bytes e
ready_of words room (Cost to cost) bytes e = cost_ready words room to cost bytes e
ready_of words room (Down to) bytes e = down_ready words room to bytes e
ready_of words room (Message from) bytes e = message_ready words room from bytes e
