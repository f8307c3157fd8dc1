-- What a unit answers, leaves and sends when a copy of its table is told of an event that it does not refuse.
use Prim.Native.Nat.{ℕ, ◌+◌, ◌-◌, ◌≤◌, ◌<◌, min}
use native.Mathlib.Omega.{arith}
use mathlib.Core.Bool.{Bool, true, false}
use mathlib.Core.List.{List, [], ◌∷◌, ◌++◌}
use mathlib.Core.Logic.{◌≢◌, inl, inr, ⊎_elim}
use mathlib.Core.Path.{◌≡◌, refl, sym, ap, ◌∙◌}
use borrow.Author.Tests.{eq-eqb, ne_eqb}
use lib.Dec.{eqb}
use lib.ListN.{length, take, drop}
use lib.Seq.{take_all}
use Rattle.std.specs.Prelude.{Result, Ok, Err, IfOk}
use Rattle.std.specs.Prelude.{if◌then◌else◌}
use Rattle.ground.specs.Limits.{firmware_room}
use Rattle.ground.specs.Refusal.{accepted, answer_base}
use Rattle.ground.specs.Rows.{at, zeros}
use Rattle.rules.specs.Event.{Event, Reaction, owed_of, noted, reaction}
use Rattle.rules.specs.Hub.{HubCall, hub_up, hub_cost, hub_down, hub_message, event_of, hub_refusal, hub_answer, outgoing}
use Rattle.rules.specs.Hub.{table_refusal, table_answer, table_after, buffer_after}
use Rattle.rules.specs.Message.{Message, written_length}
use Rattle.rules.specs.Tables.{queue_bytes, laid_unit, unit_from}
use Rattle.rules.specs.Unit.{Unit, fit_unit}
use Rattle.unit.specs.declared.calls.Call.TheVariants.{Up, Cost, Down, Message as Brought}
use Rattle.ground.specs.declared.refusals.Refusal.{Refusal}
use Rattle.ground.proofs.Answers.{number_once, number_below}
use Rattle.ground.proofs.Each.{each_first}
use Rattle.ground.proofs.Tests.{less_or_not, if_true, if_false}
use Rattle.rules.proofs.Laid.{ShapedUnit, unit_reads_back}
use Rattle.rules.proofs.LegalMessages.{legal_of}
use Rattle.rules.proofs.QueuedMessages.{Proper, queued_legal}
use Rattle.unit.proofs.ReadyCalls.{ready_of}
use Rattle.steps.proofs.SentMessages.{Reacted, reacted_to}
use Rattle.queues.specs.Queue.{queue_of}
use Rattle.fitness.specs.UnitTables.{table_of}
use Rattle.events.specs.Telling.{told_as, laid_as, told_by, first_in, first_answer, first_told, first_laid}
use Rattle.events.specs.declared.tell.Told.{Told}
use Rattle.queues.proofs.SentParcels.{Single, Parcels, sent_by, outgoing_parcels}
use Rattle.fitness.proofs.FitTables.{laid_fit}

-- A unit that does not refuse an event is fit once it has noted it.
still_fit : (words : List ℕ) (room : ℕ) (call : HubCall) → table_refusal words room call ≡ accepted
    → fit_unit (noted (unit_from words) (event_of call)) ≡ true
still_fit words room (hub_up to c) e = (ready_of words room (Up to c) [] e).fitted
still_fit words room (hub_cost to c) e = (ready_of words room (Cost to c) [] e).fitted
still_fit words room (hub_down to) e = (ready_of words room (Down to) [] e).fitted
still_fit words room (hub_message from bytes) e = (ready_of words room (Brought from) bytes e).fitted

-- At most one proper message is none, or one that is legal.
single_of : (n a : ℕ) (ms : List Message) → length ms ≤ 1 → Proper n a ms → Single n ms
single_of n a [] few proper = inl refl
single_of n a (m ∷ []) few proper = inr (m, refl, legal_of n m (queued_legal n a m (each_first proper)))
single_of n a (m ∷ k ∷ ms) few proper = absurd (omega arith)

-- What a unit of n that is told of an event answers, leaves and sends, where its reaction is r.
pub record Tells (n : ℕ) (told : Told) (r : Reaction) : Type 0 where
  pub table : told.table ≡ laid_unit r.unit
  pub counted : r.unit.count ≡ n
  pub shaped : ShapedUnit r.unit
  pub single : (k : ℕ) → k < n → Single n (sent_by r k)
  pub parcels : Parcels n (sent_by r) told.sent told.used

module _ (u : Unit) (s : ShapedUnit u) (fit : fit_unit u ≡ true) (call : HubCall) where
  -- Its table refuses what the unit does.
  same_refusal : table_refusal (laid_unit u) firmware_room call ≡ hub_refusal u firmware_room call
  unfolding table_refusal
  same_refusal = rw (laid_fit u s fit, unit_reads_back u s)

  -- The refusal is what it answers, where there is one.
  pub told_answer : table_answer (laid_unit u) firmware_room call
      ≡ hub_answer (hub_refusal u firmware_room call) (length (outgoing (reaction u (event_of call))))
  unfolding table_answer
  told_answer = rw (same_refusal, unit_reads_back u s)

  -- Else it tells of its reaction.
  pub tells : hub_refusal u firmware_room call ≡ accepted
      → Tells u.count (told_by (laid_unit u) call) (reaction u (event_of call))
  unfolding table_answer table_after buffer_after
  tells ok =
      let e : Event = event_of call in
      let r : Reaction = reaction u e in
      let told : Told = told_by (laid_unit u) call in
      let free : table_refusal (laid_unit u) firmware_room call ≡ accepted = same_refusal ∙ ok in
      let facts : Reacted u.count u.me (noted u e) (owed_of u.count e) r =
      reacted_to u e s (rw (unit_reads_back u s) at (still_fit (laid_unit u) firmware_room call free)) in
      let single : (k : ℕ) → k < u.count → Single u.count (sent_by r k) =
      λ k h. single_of u.count u.me _ (facts.few k h) (facts.sent k h) in
      let answer : table_answer (laid_unit u) firmware_room call ≡ answer_base + length (outgoing r) = told_answer ∙ rw ok in
      let used : told.used ≡ length (outgoing r) = omega (arith, answer) in
      let sent : told.sent ≡ outgoing r ++ drop (length (outgoing r)) (zeros firmware_room) =
      rw (free, unit_reads_back u s) in
      record {
        table = rw (free, unit_reads_back u s);
        counted = facts.counted;
        shaped = facts.shaped;
        single = single;
        parcels =
            rw (used, sent)
            (outgoing_parcels u.count s.limit r facts.counted single
            (drop (length (outgoing r)) (zeros firmware_room)));
      }

-- The bytes used, the copy's new table and the buffer are those of the table.
pub told_is : (call : HubCall) {table copy : List ℕ} → copy ≡ table → {used : ℕ} {after sent : List ℕ}
    → (used ≡ table_answer copy firmware_room call - answer_base)
    × ((after ≡ table_after copy firmware_room call) × (sent ≡ buffer_after copy (zeros firmware_room) call))
    → ◌≡◌ {A = Told} (record { table = after; sent = sent; used = used }) (told_by table call)
told_is call {table} {copy} e {used} {after} {sent} told =
    (λ i. record { table = told.1.0 i; sent = told.1.1 i; used = told.0 i }) ∙ ap (λ (t : List ℕ). told_by t call) e

-- The first numbers of a list, no more than it has.
pub take_least : (n : ℕ) (xs : List ℕ) {m : ℕ} → length xs ≡ m → {k : ℕ} → k ≡ min n m → take k xs ≡ take n xs
take_least n xs {m} long {k} e =
    ⊎_elim
    (λ h. let same : k ≡ n = omega arith in ap (λ (j : ℕ). take j xs) same)
    (λ h. take_all k xs (omega arith) ∙ sym (take_all n xs (omega arith)))
    (less_or_not n m)

-- What is told of the first message of a queue that is found as it is loaded.
module _ (words bytes : List ℕ) (a b : ℕ) {queue : List ℕ} (loaded : queue ≡ queue_of bytes a b) where
  -- There is none.
  pub none_first : at queue 0 ≡ 0 → 8 ≡ first_answer words bytes a b
  unfolding first_answer
  none_first z =
      sym (if_true (eqb (at (queue_of bytes a b) 0) 0) _ _ (eq-eqb _ 0 (ap (λ (q : List ℕ). at q 0) (sym loaded) ∙ z)))

  pub none_laid : at queue 0 ≡ 0 → (held : Told) → held ≡ first_laid words bytes a b held
  unfolding first_laid
  none_laid z held =
      sym (if_true (eqb (at (queue_of bytes a b) 0) 0) _ _ (eq-eqb _ 0 (ap (λ (q : List ℕ). at q 0) (sym loaded) ∙ z)))

  -- There is one, whose bytes are the first, no more than the queue has.
  module _ (d : at queue 0 ≢ 0) (wide : length queue ≡ queue_bytes) {long : ℕ} (n : long ≡ min (written_length (at queue 3)) queue_bytes) where
    first_is : take long queue ≡ first_in (queue_of bytes a b)
    first_is = take_least (written_length (at queue 3)) queue wide n ∙ ap first_in loaded

    pub some_first : {number : ℕ} → number ≡ table_answer (table_of words b) firmware_room (hub_message a (take long queue))
        → number ≡ first_answer words bytes a b
    unfolding first_answer
    some_first e =
        e
        ∙ ap (λ (bs : List ℕ). table_answer (table_of words b) firmware_room (hub_message a bs)) first_is
        ∙ sym (if_false (eqb (at (queue_of bytes a b) 0) 0) _ _
        (ne_eqb _ 0 (λ z. d (ap (λ (q : List ℕ). at q 0) loaded ∙ z))))

    pub some_laid : (held : Told) {told : Told} → told ≡ told_by (table_of words b) (hub_message a (take long queue))
        → told ≡ first_laid words bytes a b held
    unfolding first_laid
    some_laid held e =
        e
        ∙ ap (λ (bs : List ℕ). told_by (table_of words b) (hub_message a bs)) first_is
        ∙ sym (if_false (eqb (at (queue_of bytes a b) 0) 0) _ _
        (ne_eqb _ 0 (λ z. d (ap (λ (q : List ℕ). at q 0) loaded ∙ z))))

-- What is not refused as there is no message is told of one.
told_of_one : (none : Bool) (answer : ℕ) {number : ℕ} (held told : Told) → number ≡ (if none then 8 else answer) → answer_base ≤ number
    → (if none then held else told) ≡ told
told_of_one true answer held told e l = absurd (omega (arith, e, l))
told_of_one false answer held told e l = refl

pub laid_first : (words bytes : List ℕ) (a b : ℕ) (held : Told) {number : ℕ} → number ≡ first_answer words bytes a b
    → answer_base ≤ number → first_laid words bytes a b held ≡ first_told words bytes a b
unfolding first_answer first_laid
laid_first words bytes a b held e l = told_of_one (eqb (at (queue_of bytes a b) 0) 0) _ held _ e l

-- No two that are told are of one number and of one table and call.
pub told_once : (said : ℕ) (told : Told) (a b : Result Told Refusal) → told_as a ≡ said → told_as b ≡ said
    → IfOk a (λ one. one ≡ told) → IfOk b (λ two. two ≡ told) → a ≡ b
told_once said told (Ok a) (Ok b) p q x y = ap Ok (x ∙ sym y)
told_once said told (Ok a) (Err b) p q x y = absurd (omega (arith, number_below b))
told_once said told (Err a) (Ok b) p q x y = absurd (omega (arith, number_below a))
told_once said told (Err a) (Err b) p q x y = ap Err (number_once a b (p ∙ sym q))

-- Nor any two that lay what they leave.
pub laid_once : (said : ℕ) (one two : Told) (a b : Result (Prim.Unit {0}) Refusal) → laid_as a one ≡ said → laid_as b two ≡ said → a ≡ b
laid_once said one two (Ok x) (Ok y) p q = refl
laid_once said one two (Ok x) (Err b) p q = absurd (omega (arith, number_below b))
laid_once said one two (Err a) (Ok y) p q = absurd (omega (arith, number_below a))
laid_once said one two (Err a) (Err b) p q = ap Err (number_once a b (p ∙ sym q))
