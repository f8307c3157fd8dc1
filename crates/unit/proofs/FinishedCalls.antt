-- What a call leaves: the reaction's unit laid in the table and its messages, in few bytes, in the buffer; or, where it
-- is refused, both as they came.
use Prim.Native.Nat.{ℕ, ◌+◌}
use native.Mathlib.Omega.{arith}
use mathlib.Core.Bool.{Bool}
use mathlib.Core.List.{List}
use mathlib.Core.Path.{◌≡◌, ap, ◌∙◌}
use borrow.Author.Tests.{ne_eqb}
use lib.ListN.{length}
use Rattle.ground.specs.Refusal.{accepted, answer_base}
use Rattle.rules.specs.Event.{Reaction, reaction_by}
use Rattle.rules.specs.Hub.{HubCall, outgoing, outgoing_laid, table_refusal, table_reaction, table_answer}
use Rattle.rules.specs.Hub.{table_after, buffer_after}
use Rattle.rules.specs.Tables.{unit_words, laid_unit}
use Rattle.state.specs.Holding.{unit_of, laid_with, with_unit}
use Rattle.state.specs.declared.held.Held.{Held}
use Rattle.unit.specs.Reacted.{FitHeld, reacted_of, reacted_out}
use Rattle.unit.specs.declared.event.Reacted.{Reacted}
use Rattle.ground.specs.Refused.{number_of}
use Rattle.ground.specs.declared.refusals.Refusal.{Refusal}
use Rattle.ground.proofs.Answers.{number_some}
use Rattle.rules.proofs.FitUnit.{fit_facts}
use Rattle.state.proofs.Holding.{laid_held}
use Rattle.state.proofs.Tables.{laid-over}
use Rattle.steps.proofs.FitReaction.{shaped_again}
use Rattle.unit.proofs.HeldFit.{held_shaped}

-- The code's result, laid over the table.
finished : (words : List ℕ) → length words ≡ unit_words → (h : Held) → FitHeld h
    → (was : Bool) (new owed : ℕ) (r : Reacted) → r ≡ reacted_of (unit_of h) was new owed
    → with_unit words r.unit r.successors ≡ laid_unit (reaction_by (unit_of h) was new owed).unit
unfolding reacted_of reaction_by
finished words long h f was new owed r e =
    let facts = fit_facts (unit_of h) f.fit in
    laid-over words r.unit r.successors long
    (omega (arith, ap (λ (x : Reacted). x.unit.count) e, facts.high))
    (omega (arith, ap (λ (x : Reacted). x.unit.me) e, facts.me, facts.high))
    ∙ ap (λ (x : Reacted). laid_with x.unit x.successors) e
    ∙ laid_held (reaction_by (unit_of h) was new owed).unit (shaped_again (unit_of h) was new owed (held_shaped f))

-- The answer, the table and the buffer, from what the reaction and the unit's laying leave.
pub all_done : (words : List ℕ) → length words ≡ unit_words → (h : Held) → FitHeld h → (was : Bool) (new owed : ℕ)
    (buffer : List ℕ) {r : Reacted} {after out : List ℕ} → r ≡ reacted_of (unit_of h) was new owed
    → out ≡ reacted_out (unit_of h) was new owed buffer → after ≡ with_unit words r.unit r.successors
    → (r.used ≡ length (outgoing (reaction_by (unit_of h) was new owed)))
    × ((after ≡ laid_unit (reaction_by (unit_of h) was new owed).unit)
    × (out ≡ outgoing_laid (reaction_by (unit_of h) was new owed) buffer))
unfolding reacted_of reacted_out
all_done words long h f was new owed buffer {r} done sent laid =
    (ap (λ (x : Reacted). x.used) done, (laid ∙ finished words long h f was new owed r done, sent))

-- What a call leaves, refused or not.
module _ (words buffer : List ℕ) (call : HubCall) where
  pub refused_call : (refusal : Refusal) → number_of refusal ≡ table_refusal words (length buffer) call
      → (number_of refusal ≡ table_answer words (length buffer) call)
      × ((words ≡ table_after words (length buffer) call) × (buffer ≡ buffer_after words buffer call))
  unfolding table_answer table_after buffer_after
  refused_call refusal e =
      let out = ne_eqb (table_refusal words (length buffer) call) accepted (λ z. number_some refusal (e ∙ z)) in
      (rw out e, (rw out, rw out))

  pub accepted_call : (r : Reaction) → r ≡ table_reaction words call → table_refusal words (length buffer) call ≡ accepted
      → {used : ℕ} {after out : List ℕ} → used ≡ length (outgoing r) → after ≡ laid_unit r.unit
      → out ≡ outgoing_laid r buffer
      → (answer_base + used ≡ table_answer words (length buffer) call)
      × ((after ≡ table_after words (length buffer) call) × (out ≡ buffer_after words buffer call))
  unfolding table_answer table_after buffer_after
  accepted_call r same none a t o = (
    rw none (ap (λ (used : ℕ). answer_base + used) (a ∙ ap (λ (x : Reaction). length (outgoing x)) same)),
    (
      rw none (t ∙ ap (λ (x : Reaction). laid_unit x.unit) same),
      rw none (o ∙ ap (λ (x : Reaction). outgoing_laid x buffer) same),
    ),
  )
