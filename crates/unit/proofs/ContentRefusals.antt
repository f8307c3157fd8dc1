-- Refusals 9 to 12, of a message's content, from the tests in the order in which the code makes them.
use Prim.Native.Nat.{ℕ, ◌%◌, ◌<◌}
use mathlib.Core.Bool.{Bool, true, false, not, ◌&&◌}
use mathlib.Core.List.{List}
use mathlib.Core.Logic.{◌⊎◌, inl, inr, ◌≢◌}
use mathlib.Core.Path.{◌≡◌, sym, ap, ◌∙◌}
use borrow.Author.Tests.{eq-eqb, ne_eqb, not-false}
use lib.Dec.{eqb}
use lib.ListN.{length, take}
use lib.Seq.{get_or-take}
use Rattle.ground.specs.Limits.{unit_limit}
use Rattle.ground.specs.Refusal.{accepted, ◌gives◌}
use Rattle.ground.specs.Rows.{at}
use Rattle.tree.specs.Recompute.{copy_of}
use Rattle.tree.specs.Tree.{is_tree}
use Rattle.rules.specs.Event.{message_refusal, changes_nothing}
use Rattle.rules.specs.Message.{Message, message_of, readable, applied, holds_acknowledgment}
use Rattle.rules.specs.Tables.{laid_row}
use Rattle.rules.specs.Unit.{Unit, awaits}
use Rattle.state.specs.Holding.{unit_of}
use Rattle.state.specs.declared.held.Held.{Held}
use Rattle.unit.specs.Calls.{content_refusal}
use Rattle.unit.specs.Noting.{UnitsBelow}
use Rattle.unit.specs.Reacted.{FitHeld}
use Rattle.ground.proofs.Filled.{take_filled}
use Rattle.ground.proofs.Refusal.{gives_none, otherwise_none}
use Rattle.ground.proofs.Tests.{both_of, and_false}
use Rattle.rules.proofs.Applied.{applied_filled, changes_nothing_filled, length_applied}
use Rattle.message.specs.Kind.{kind_number}
use Rattle.message.specs.declared.reader.Header.{Header}
use Rattle.message.proofs.ReaderAnswers.{Taken}
use Rattle.unit.proofs.HeldFit.{held_shaped}

-- Changes made in a copy that is filled up are those made in the copy.
applied_laid : (n : ℕ) (copy changes : List ℕ) → length copy ≡ n → UnitsBelow n changes
    → take n (applied (laid_row copy) changes) ≡ applied copy changes
applied_laid n copy changes e below =
    ap (take n) (applied_filled unit_limit copy changes (λ i l. rw e (below i l)))
    ∙ take_filled unit_limit (applied copy changes) n (length_applied copy changes ∙ e)

-- Refusals 10 to 12, by the tests.
module _ (u : Unit) (m : Message) where
  -- The three tests.
  abbrev unawaited : Bool
  unawaited = holds_acknowledgment m && not (awaits u m.sender)

  abbrev idle : Bool
  idle = changes_nothing (copy_of u.copies m.sender) m.changes

  abbrev grown : Bool
  grown = is_tree u.count m.sender (applied (copy_of u.copies m.sender) m.changes)

  refusal_ten : unawaited ≡ true → 10 ≡ message_refusal u m
  unfolding message_refusal
  refusal_ten a = rw a

  refusal_eleven : unawaited ≡ false → idle ≡ true → 11 ≡ message_refusal u m
  unfolding message_refusal
  refusal_eleven a b = rw (a, b)

  refusal_twelve : unawaited ≡ false → idle ≡ false → grown ≡ false → 12 ≡ message_refusal u m
  unfolding message_refusal
  refusal_twelve a b d = rw (a, b, d)

  refusal_none : unawaited ≡ false → idle ≡ false → grown ≡ true → 0 ≡ message_refusal u m
  unfolding message_refusal
  refusal_none a b d = rw (a, b, d)

  -- Where none applies, the changed copy is a tree.
  pub grown_of : message_refusal u m ≡ accepted → grown ≡ true
  unfolding message_refusal
  grown_of e =
      let last = (otherwise_none (idle gives 11) (not grown gives 12) (otherwise_none (unawaited gives 10) _ e).1).1 in
      not-false grown (gives_none (not grown) 11 last)

-- Refusal 9 comes before them.
module _ (u : Unit) (from : ℕ) (bytes : List ℕ) where
  pub refused_unread : readable u.count bytes ≡ false → 9 ≡ content_refusal u from bytes
  refused_unread e = rw e

  pub refused_sender : readable u.count bytes ≡ true → (message_of bytes).sender ≢ from → 9 ≡ content_refusal u from bytes
  refused_sender r d = rw (r, ne_eqb (message_of bytes).sender from d)

  passed : readable u.count bytes ≡ true → (message_of bytes).sender ≡ from
      → message_refusal u (message_of bytes) ≡ content_refusal u from bytes
  passed r s = rw (r, eq-eqb (message_of bytes).sender from s)

-- What the code found of a message from the neighbour that it came by.
module _
    (h : Held)
    (from : ℕ)
    (bytes : List ℕ)
    (p : FitHeld h)
    (below : from < h.count)
    (header : Header)
    {changes : List ℕ}
    (t : Taken h.count bytes header changes)
    (same : header.sender ≡ from)
  where
    abbrev m : Message
    m = message_of bytes

    abbrev u : Unit
    u = unit_of h

    sent-by : m.sender ≡ from
    sent-by = sym t.of_sender ∙ same

    abbrev copied : List ℕ
    copied = copy_of u.copies m.sender

    content : message_refusal u m ≡ content_refusal u from bytes
    content = passed u from bytes t.legible sent-by

    waited : at u.awaited m.sender ≡ at h.awaited from
    waited = ap (at u.awaited) sent-by ∙ get_or-take h.count h.awaited from 0 below

    -- Refusal 10: an acknowledgment that is not awaited.
    pub refused_wait : true ≡ eqb (kind_number header.kind % 2) 1 → at h.awaited from ≡ 0 → 10 ≡ content_refusal u from bytes
    refused_wait odd none =
        refusal_ten u m
        (both_of (holds_acknowledgment m) _ (ap (λ (k : ℕ). eqb (k % 2) 1) (sym t.of_kind) ∙ sym odd)
        (rw (eq-eqb (at u.awaited m.sender) 0 (waited ∙ none))))
        ∙ content

    -- Else the acknowledgment, if there is one, is awaited.
    abbrev pub Awaited : Type 0
    Awaited = (at h.awaited from ≢ 0) ⊎ (false ≡ eqb (kind_number header.kind % 2) 1)

    waited_for : Awaited → unawaited u m ≡ false
    waited_for (inl w) =
        and_false (holds_acknowledgment m) _
        (rw (ne_eqb (at u.awaited m.sender) 0 (λ z. w (sym waited ∙ z))))
    waited_for (inr even) =
        let none : holds_acknowledgment m ≡ false = ap (λ (k : ℕ). eqb (k % 2) 1) (sym t.of_kind) ∙ sym even in
        rw none

    module _ (w : Awaited) {copy : List ℕ} (e : copy ≡ laid_row (copy_of u.copies from)) where
      laid : copy ≡ laid_row copied
      laid = e ∙ ap (λ (k : ℕ). laid_row (copy_of u.copies k)) (sym sent-by)

      idle_by : changes_nothing copy (take header.entries changes) ≡ idle u m
      idle_by =
          ap (λ (row : List ℕ). changes_nothing row (take header.entries changes)) laid
          ∙ ap (changes_nothing (laid_row copied)) t.part
          ∙ changes_nothing_filled unit_limit copied m.changes

      -- Refusal 11: a change that changes nothing.
      pub refused_idle : {found : Bool} → found ≡ changes_nothing copy (take header.entries changes) → found ≡ true
          → 11 ≡ content_refusal u from bytes
      refused_idle f y = refusal_eleven u m (waited_for w) (sym idle_by ∙ sym f ∙ y) ∙ content

      module _ {found : Bool} (f : found ≡ changes_nothing copy (take header.entries changes)) (no : found ≡ false)
          {after : List ℕ} (g : after ≡ applied copy (take header.entries changes)) where
        not_idle : idle u m ≡ false
        not_idle = sym idle_by ∙ sym f ∙ no

        copied_length : length copied ≡ h.count
        copied_length = (held_shaped p).copy m.sender (rw sent-by below)

        grown_row : take h.count after ≡ applied copied m.changes
        grown_row =
            ap (take h.count)
            (g ∙ ap (λ (row : List ℕ). applied row (take header.entries changes)) laid ∙ ap (applied (laid_row copied)) t.part)
            ∙ applied_laid h.count copied m.changes copied_length (rw t.part at t.units)

        -- The row that was changed has a place for each unit.
        pub after_length : length (take h.count after) ≡ h.count
        after_length = ap length grown_row ∙ length_applied copied m.changes ∙ copied_length

        grown_by : is_tree (length (take h.count after)) from (take h.count after) ≡ grown u m
        grown_by =
            ap (λ (n : ℕ). is_tree n from (take h.count after)) after_length
            ∙ ap (is_tree h.count from) grown_row
            ∙ ap (λ (k : ℕ). is_tree h.count k (applied copied m.changes)) (sym sent-by)

        -- Refusal 12: the changed copy is no tree; or none.
        module _ {is : Bool} (j : is ≡ is_tree (length (take h.count after)) from (take h.count after)) where
          pub refused_tree : is ≡ false → 12 ≡ content_refusal u from bytes
          refused_tree n = refusal_twelve u m (waited_for w) not_idle (sym grown_by ∙ sym j ∙ n) ∙ content

          pub refused_none : is ≡ true → 0 ≡ content_refusal u from bytes
          refused_none y = refusal_none u m (waited_for w) not_idle (sym grown_by ∙ sym j ∙ y) ∙ content
