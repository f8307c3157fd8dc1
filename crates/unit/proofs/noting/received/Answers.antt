-- `unit::noting::received` meets its contract. The wait goes by the acknowledgment's test, the sender's copy by the update's: `applied_filled` and `copy_stored`.
use Prim.Native.Nat.{ℕ, ◌%◌, ◌<◌}
use native.Mathlib.Omega.{arith}
use mathlib.Core.Bool.{true, false}
use mathlib.Core.List.{List, map}
use mathlib.Core.Logic.{◌⊎◌, inl, inr, ⊎_elim}
use mathlib.Core.Path.{◌≡◌, sym, ap, ◌∙◌}
use lib.Dec.{eqb}
use lib.ListN.{length, set}
use Rattle.std.specs.Prelude.{if◌then◌else◌}
use Rattle.ground.specs.Limits.{unit_limit}
use Rattle.ground.specs.Rows.{filled, joined}
use Rattle.tree.specs.Recompute.{copy_of}
use Rattle.rules.specs.Event.{noted}
use Rattle.rules.specs.Message.{applied, holds_acknowledgment, holds_update}
use Rattle.rules.specs.Tables.{laid_row}
use Rattle.message.specs.Fields.{fields_of}
use Rattle.message.specs.Kind.{kind_number}
use Rattle.ground.proofs.Tests.{if_true, if_false}
use Rattle.rules.proofs.Applied.{applied_filled, length_applied}
use Rattle.recomputing.specs.Flat.{flat_length, with_row}
use Rattle.state.specs.Holding.{unit_of}
use Rattle.state.specs.declared.held.Held.{Held}
use Rattle.unit.specs.Noting.{Padded}
use Rattle.unit.proofs.NotedArrays.{padded_shaped, row_stored, links_held, copy_stored}
use Rattle.unit.proofs.noting.received.Goals as goal
use Rattle.unit.proofs.noting.received.Goals.{then-acknowledges, else-acknowledges}

-- The waits and the copies that step A leaves.
abbrev waits_after : (h : Held) (kind k : ℕ) (changes : List ℕ) → List ℕ
waits_after h kind k changes =
    let waits = (unit_of h).awaited in
    if holds_acknowledgment (fields_of kind k changes) then set waits k 0 else waits

abbrev copies_after : (h : Held) (kind k : ℕ) (changes : List ℕ) → List (List ℕ)
copies_after h kind k changes =
    let copies = (unit_of h).copies in
    if holds_update (fields_of kind k changes)
    then set copies k (applied (copy_of copies k) changes)
    else copies

-- The waits are stored.
waits_stored : (h : Held) (kind k : ℕ) (changes stored : List ℕ) → Padded h → k < h.count
    → ((true ≡ eqb (kind % 2) 1) × (stored ≡ set h.awaited k 0)) ⊎ ((false ≡ eqb (kind % 2) 1) × (stored ≡ h.awaited))
    → stored ≡ laid_row (waits_after h kind k changes)
waits_stored h kind k changes stored p below way =
    let own : h.awaited ≡ laid_row (unit_of h).awaited = ap (λ (g : Held). g.awaited) p.zeros in
    ⊎_elim
    (λ w.
    w.1
    ∙ row_stored h.count p.count h.awaited k 0 own below
    ∙ ap laid_row (sym (if_true _ _ _ (sym w.0))))
    (λ w. w.1 ∙ own ∙ ap laid_row (sym (if_false _ _ _ (sym w.0))))
    way

pub returns-then-not-updates : goal.returns-then-not-updates
unfolding noted
returns-then-not-updates c =
    let h = c.args.unit in
    let p = c.requires.0 in
    let kind = kind_number c.args.kind in
    let k = c.args.sender in
    let changes = c.args.changes.now in
    links_held h p (unit_of h).costs (waits_after h kind k changes) (copies_after h kind k changes) c.with_links.ensures
    (ap (λ (g : Held). g.costs) p.zeros)
    (waits_stored h kind k changes _ p c.requires.1
    (elim c.if-acknowledges.branch [
      | then-acknowledges w ↦ inl (w.if-acknowledges.ensures, w.awaited-is)
      | else-acknowledges w ↦ inr (w.if-acknowledges.ensures, w.awaited-is)
    ]))
    (ap (λ (g : Held). g.copies) p.zeros
    ∙ ap (λ (copies : List (List ℕ)). filled flat_length (joined (map laid_row copies)))
    (sym (if_false _ _ _ (sym c.if-not-updates.ensures))))

pub applied-copy-requires : goal.applied-copy-requires
applied-copy-requires c = λ i l. omega (arith, c.requires.2 i l, c.requires.0.count)

-- The sender's copy, changed, is stored.
pub returns : goal.returns
unfolding noted
returns c =
    let h = c.args.unit in
    let p = c.requires.0 in
    let kind = kind_number c.args.kind in
    let k = c.args.sender in
    let changes = c.args.changes.now in
    let copy = copy_of (unit_of h).copies k in
    let long : length copy ≡ h.count = (padded_shaped h p).copy k c.requires.1 in
    let laid : c.applied-copy.result ≡ laid_row (applied copy changes) =
    c.applied-copy.ensures
    ∙ ap (λ (row : List ℕ). applied row changes) c.copy_of.ensures
    ∙ applied_filled unit_limit copy changes (λ i l. rw long (c.requires.2 i l)) in
    links_held h p (unit_of h).costs (waits_after h kind k changes) (copies_after h kind k changes) c.with_links-2.ensures
    (ap (λ (g : Held). g.costs) p.zeros)
    (waits_stored h kind k changes _ p c.requires.1
    (elim c.if-acknowledges.branch [
      | then-acknowledges w ↦ inl (w.if-acknowledges.ensures, w.awaited-is)
      | else-acknowledges w ↦ inr (w.if-acknowledges.ensures, w.awaited-is)
    ]))
    (c.with_copy.ensures
    ∙ ap (with_row h.copies k) laid
    ∙ copy_stored h p k c.requires.1 (applied copy changes) (length_applied copy changes ∙ long)
    ∙ ap (λ (copies : List (List ℕ)). filled flat_length (joined (map laid_row copies)))
    (sym (if_true _ _ _ (sym c.if-not-updates.ensures))))
