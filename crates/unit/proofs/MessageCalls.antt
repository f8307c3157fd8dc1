-- The call that brings a message: its refusals are those about its link and then those of its content; what it tells
-- that nothing refuses it; and what step A makes of the message.
use Prim.Native.Nat.{ℕ}
use mathlib.Core.Bool.{true, false, not, ◌&&◌}
use mathlib.Core.List.{List}
use mathlib.Core.Logic.{◌⊎◌, inl, inr}
use mathlib.Core.Path.{◌≡◌, refl, sym, ap, ◌∙◌}
use borrow.Author.Tests.{eqb-true, not-false}
use lib.Dec.{eqb, leb}
use lib.ListN.{take}
use Rattle.std.specs.Prelude.{Option, None, Some, unwrap_or}
use Rattle.ground.specs.Refusal.{accepted, ◌gives◌, ◌otherwise◌}
use Rattle.ground.specs.Refused.{number_of}
use Rattle.ground.specs.declared.refusals.Refusal.{Refusal}
use Rattle.rules.specs.Event.{received, noted, owed_of}
use Rattle.rules.specs.Hub.{hub_message, hub_refusal, table_refusal, too_short}
use Rattle.rules.specs.Message.{Message, update, message_of, readable, holds_update}
use Rattle.rules.specs.Network.{bad_ends}
use Rattle.rules.specs.Tables.{unit_from, fit_unit_table}
use Rattle.rules.specs.Unit.{Unit, is_neighbour, fit_unit}
use Rattle.message.specs.Fields.{fields_of}
use Rattle.message.specs.Kind.{kind_number}
use Rattle.message.specs.declared.reader.Header.{Header}
use Rattle.state.specs.Holding.{held_of, unit_of}
use Rattle.state.specs.declared.held.Held.{Held}
use Rattle.unit.specs.Calls.{first_refusal, content_refusal, NotedBy}
use Rattle.unit.specs.declared.calls.Call.TheVariants.{Message as FromNeighbour}
use Rattle.ground.proofs.Lists.{parts}
use Rattle.ground.proofs.Answers.{refusal_first}
use Rattle.ground.proofs.Refusal.{gives_none, otherwise_none, rest_counts, in_a_row}
use Rattle.ground.proofs.Tests.{both, if_true, if_false}
use Rattle.rules.proofs.Fit.{fit_unit_shaped}
use Rattle.rules.proofs.Noted.{received_fit}
use Rattle.message.proofs.ReaderAnswers.{Taken}
use Rattle.unit.proofs.ContentRefusals.{grown_of}
use Rattle.unit.proofs.LinkRefusals.{Passed, passed, linked_up}

module _ (words : List ℕ) (room from : ℕ) (bytes : List ℕ) where
  -- Refusals of a message: those about a link that should be up, then those of its content.
  message_parts : table_refusal words room (hub_message from bytes)
      ≡ (first_refusal words room from true false otherwise content_refusal (unit_from words) from bytes)
  unfolding table_refusal hub_refusal
  message_parts =
      let a = not (fit_unit_table words) gives 2 in
      let b = bad_ends (unit_from words).count (unit_from words).me from gives 3 in
      let d = not (is_neighbour (unit_from words) from) gives 6 in
      let f = too_short room gives 7 in
      let g = content_refusal (unit_from words) from bytes in
      ap (λ (x : ℕ). a otherwise (b otherwise x)) (in_a_row d f g)
      ∙ in_a_row a b ((d otherwise f) otherwise g)
      ∙ in_a_row (a otherwise b) (d otherwise f) g

  -- The link's refusal is the message's.
  pub link_refused : (refusal : Refusal) → number_of refusal ≡ first_refusal words room from true false
      → number_of refusal ≡ table_refusal words room (hub_message from bytes)
  link_refused refusal e = refusal_first refusal _ _ e ∙ sym message_parts

  -- Where the link has none, the content's is.
  pub content_refused : {content : ℕ} {u : Unit} → accepted ≡ first_refusal words room from true false
      → content ≡ content_refusal u from bytes → u ≡ unit_from words
      → content ≡ table_refusal words room (hub_message from bytes)
  content_refused none found held =
      found
      ∙ ap (λ (v : Unit). content_refusal v from bytes) held
      ∙ sym (message_parts ∙ rest_counts _ _ (sym none))

-- The unit of a fit table is fit.
pub table_fit : (words : List ℕ) → fit_unit_table words ≡ true → fit_unit (unit_from words) ≡ true
unfolding fit_unit_table
table_fit words e = search parts

-- What it tells that a message has none.
pub record Welcome (words : List ℕ) (room from : ℕ) (bytes : List ℕ) : Type 0 where
  pub link : Passed words room from true false
  pub legible : readable (unit_from words).count bytes ≡ true
  pub sender : (message_of bytes).sender ≡ from
  pub noted_fit : fit_unit (noted (unit_from words) (received (message_of bytes))) ≡ true

pub welcome : (words : List ℕ) (room from : ℕ) (bytes : List ℕ) → table_refusal words room (hub_message from bytes) ≡ accepted
    → Welcome words room from bytes
welcome words room from bytes e =
    let v = unit_from words in
    let m = message_of bytes in
    let halves = otherwise_none _ _ (sym (message_parts words room from bytes) ∙ e) in
    let link = passed words room from true false refl halves.0 in
    let known = not (readable v.count bytes && eqb m.sender from) in
    let told = otherwise_none (known gives 9) _ halves.1 in
    let good = both (readable v.count bytes) _ (not-false _ (gives_none known 8 told.0)) in
    let sender = eqb-true m.sender from good.1 in
    record {
      link = link;
      legible = good.0;
      sender = sender;
      noted_fit =
          received_fit v (fit_unit_shaped words link.ends.fit) (table_fit words link.ends.fit) m
          (rw sender link.ends.below)
          (rw sender (linked_up words from link.link))
          (grown_of v m told.1);
    }

-- What step A makes of the message that was taken.
module _ (h : Held) (from : ℕ) (bytes : List ℕ) (sent : (message_of bytes).sender ≡ from) (header : Header)
    {changes : List ℕ} (t : Taken h.count bytes header changes) where
  same_message : fields_of (kind_number header.kind) from (take header.entries changes) ≡ message_of bytes
  same_message = λ i. record { kind = t.of_kind i; sender = sym sent i; changes = t.part i }

  -- The one who is owed, by whether there is an update.
  abbrev Owed : Option ℕ → Type 0
  Owed owed =
      ((true ≡ leb update (kind_number header.kind)) × (owed ≡ Some from))
      ⊎ ((false ≡ leb update (kind_number header.kind)) × (owed ≡ None))

  owed_by : {owed : Option ℕ} → Owed owed → unwrap_or owed h.count ≡ owed_of h.count (received (message_of bytes))
  owed_by (inl q) =
      ap (λ (o : Option ℕ). unwrap_or o h.count) q.1
      ∙ sym sent
      ∙ sym (if_true (holds_update (message_of bytes)) _ _ (ap (leb update) (sym t.of_kind) ∙ sym q.0))
  owed_by (inr q) =
      ap (λ (o : Option ℕ). unwrap_or o h.count) q.1
      ∙ sym (if_false (holds_update (message_of bytes)) _ _ (ap (leb update) (sym t.of_kind) ∙ sym q.0))

  pub taken_noted : {after : Held}
      → after ≡ held_of (noted (unit_of h) (received (fields_of (kind_number header.kind) from (take header.entries changes))))
      → {owed : Option ℕ} → Owed owed
      → NotedBy h (FromNeighbour from) bytes (record { unit = after; new = None; owed = owed })
  taken_noted e o =
      record {
        unit = e ∙ ap (λ (m : Message). held_of (noted (unit_of h) (received m))) same_message;
        new = refl;
        owed = owed_by o;
      }
