-- The events of a call that is not refused before the queues are looked at: what the units at its ends refuse, and what
-- they tell.
use Prim.Native.Nat.{ℕ, ◌<◌}
use mathlib.Core.Bool.{true, false}
use mathlib.Core.List.{List}
use mathlib.Core.Path.{◌≡◌, ap, ◌∙◌}
use native.Mathlib.Omega.{arith}
use borrow.Author.Tests.{lt-ltb, le-leb, eq-eqb, ne_eqb}
use lib.ListN.{length}
use Rattle.ground.specs.Limits.{firmware_room, legal_cost}
use Rattle.ground.specs.Refusal.{accepted, answer_base}
use Rattle.ground.specs.Rows.{at}
use Rattle.rules.specs.Event.{reaction, message_refusal}
use Rattle.rules.specs.Hub.{HubCall, hub_up, hub_cost, hub_down, hub_message, event_of, hub_refusal, hub_answer, table_answer, outgoing}
use Rattle.rules.specs.Message.{Message, legal_message, written}
use Rattle.rules.specs.Network.{Network, unit_at, is_up, bad_ends}
use Rattle.rules.specs.Tables.{network_from, fit_tables}
use Rattle.rules.specs.Unit.{Unit}
use Rattle.ground.proofs.Tests.{both_of}
use Rattle.rules.proofs.Fit.{FitNetwork, fit_tables_of, fit_network_shaped}
use Rattle.rules.proofs.Written.{written_readable, reads_back}
use Rattle.steps.proofs.AcceptedCalls.{Ends, LegalCost}
use Rattle.fitness.specs.UnitTables.{table_of}
use Rattle.fitness.proofs.FitTables.{table_laid}
use Rattle.events.specs.Telling.{told_by}
use Rattle.events.specs.declared.tell.Told.{Told}
use Rattle.events.proofs.HeldNetwork.{Trial, fit_tabled}
use Rattle.events.proofs.ToldUnit.{tells, told_answer}

-- A legal cost passes the test.
cost_legal : {c : ℕ} → LegalCost c → legal_cost c ≡ true
cost_legal l = both_of _ _ (le-leb _ _ l.least) (le-leb _ _ l.most)

-- What unit a of a fit network refuses of an event about its link to unit b.
module _ (net : Network) (f : FitNetwork net) (a b : ℕ) (t : Ends net.count a b) where
  -- The unit.
  abbrev u : Unit
  u = unit_at net a

  -- It does not refuse the ends.
  good : bad_ends u.count u.me b ≡ false
  unfolding bad_ends
  good =
      rw (
        f.counts a t.first,
        f.own a t.first,
        lt-ltb a net.count t.first,
        lt-ltb b net.count t.second,
        ne_eqb a b t.differ,
      )

  -- It accepts that a link comes up which is down.
  pub accepts_up : {c : ℕ} → LegalCost c → is_up net a b ≡ false → hub_refusal u firmware_room (hub_up b c) ≡ accepted
  unfolding hub_refusal
  accepts_up l closed = rw (good, cost_legal l, closed)

  -- It accepts another cost of one that is up.
  pub accepts_cost : {c : ℕ} → LegalCost c → is_up net a b ≡ true → hub_refusal u firmware_room (hub_cost b c) ≡ accepted
  unfolding hub_refusal
  accepts_cost l opened = rw (good, cost_legal l, opened)

  -- It accepts that it goes down.
  pub accepts_down : is_up net a b ≡ true → hub_refusal u firmware_room (hub_down b) ≡ accepted
  unfolding hub_refusal
  accepts_down opened = rw (good, opened)

  -- Of a legal message from b it refuses only the content.
  pub refuses_message : is_up net a b ≡ true → (m : Message) → legal_message net.count m ≡ true → m.sender ≡ b
      → hub_refusal u firmware_room (hub_message b (written m)) ≡ message_refusal u m
  unfolding hub_refusal
  refuses_message opened m legal from =
      rw (
        good,
        opened,
        f.counts a t.first,
        written_readable net.count m legal,
        reads_back m,
        eq-eqb m.sender b from,
      )

-- Unit i of the network that fit tables hold is told of an event that it does not refuse.
pub trial : (words bytes : List ℕ) (e : fit_tables words bytes ≡ true) (i : ℕ) → i < at words 0 → (call : HubCall)
    → hub_refusal (unit_at (network_from words bytes) i) firmware_room call ≡ accepted
    → {told : Told} → told ≡ told_by (table_of words i) call
    → Trial (at words 0) words bytes (network_from words bytes) i told
    (reaction (unit_at (network_from words bytes) i) (event_of call))
unfolding network_from
trial words bytes e i h call ok same =
    let net : Network = network_from words bytes in
    let f : FitNetwork net = fit_tables_of words bytes e in
    record {
      tabled = fit_tabled words bytes e;
      place = h;
      tells =
          rw (same, table_laid words bytes e i h)
          (rw (f.counts i h) at (tells (unit_at net i) ((fit_network_shaped words bytes e).unit i h) (f.unit i h) call ok));
    }

-- Of such an event the unit answers 100 or more, and so no refusal.
pub never_refused : (words bytes : List ℕ) (e : fit_tables words bytes ≡ true) (i : ℕ) → i < at words 0 → (call : HubCall)
    → hub_refusal (unit_at (network_from words bytes) i) firmware_room call ≡ accepted
    → {number : ℕ} → number ≡ table_answer (table_of words i) firmware_room call → number < answer_base → ⊥
unfolding network_from
never_refused words bytes e i h call ok same low =
    let net : Network = network_from words bytes in
    let f : FitNetwork net = fit_tables_of words bytes e in
    let answers =
    told_answer (unit_at net i) ((fit_network_shaped words bytes e).unit i h) (f.unit i h) call
    ∙ ap (λ (k : ℕ). hub_answer k (length (outgoing (reaction (unit_at net i) (event_of call))))) ok in
    omega (arith, same ∙ ap (λ (table : List ℕ). table_answer table firmware_room call) (table_laid words bytes e i h) ∙ answers)
