-- The differences between two trees are changes that a message may carry, and are at most the count less one; so an update
-- with them is legal, and so is an acknowledgment.
use Prim.Native.Nat.{ℕ, zero, suc, ◌-◌, ◌≤◌, ◌<◌}
use native.Mathlib.Nat.{le_refl, not-suc-le-zero}
use native.Mathlib.Omega.{arith}
use mathlib.Core.Bool.{Bool, true, false}
use mathlib.Core.List.{List, [], ◌∷◌, ◌++◌, append-nil}
use mathlib.Core.Logic.{◌⊎◌, inl, inr, ⊎_elim, ◌≢◌}
use mathlib.Core.Path.{◌≡◌, refl, sym, ap, ◌∙◌}
use borrow.Author.Tests.{eqb-false, eq-eqb, ne_eqb}
use lib.Dec.{eqb}
use lib.ListN.{length, length-append, get_or-append}
use lib.Seq.{get_or_at}
use Rattle.ground.specs.Limits.{unit_limit, change_base}
use Rattle.std.specs.Prelude.{if◌then◌else◌}
use Rattle.ground.specs.Rows.{at}
use Rattle.tree.specs.Tree.{nothing, is_tree}
use Rattle.ground.proofs.Joined.{joined_skip}
use Rattle.ground.proofs.Rows.{below_suc}
use Rattle.ground.proofs.Tests.{if_true, equal_or_not}
use Rattle.rules.specs.Message.{acknowledgment, update, change, changed_unit, body_of, body_for, removed, differences, legal_changes, legal_message}
use Rattle.rules.proofs.Differences.{change_of, differences_joined, one_change}
use Rattle.rules.proofs.TreeEntries.{TreeEntry, tree_entry, tree_root, tree_short}
use Rattle.rules.proofs.LegalMessages.{LegalSetting, LegalChange, of_changes, of_legal}

-- Legal changes of units below j.
record Told (n sender : ℕ) (changes : List ℕ) (j : ℕ) : Type 0 where
  each : (i : ℕ) → i < length changes → LegalChange n sender changes i
  below : (i : ℕ) → i < length changes → changed_unit (at changes i) < j

-- With a legal change of unit j they are legal changes of units up to j.
told_more : (n sender : ℕ) (changes : List ℕ) (c : ℕ) → Told n sender changes (changed_unit c) → changed_unit c < n → changed_unit c ≢ sender
    → (body_of c ≡ removed) ⊎ LegalSetting n (changed_unit c) (body_of c)
    → Told n sender (changes ++ (c ∷ [])) (suc (changed_unit c))
told_more n sender changes c told unit other body =
    record {
      each = λ i l. ⊎_elim (last i) (λ k. earlier i k (told.each i k)) (split i l);
      below =
          λ i l.
          ⊎_elim
          (λ q. omega (arith, ap changed_unit (at_last i q)))
          (λ k. omega (arith, ap changed_unit (at_earlier i k), told.below i k))
          (split i l);
    }
  where
    split : (i : ℕ) → i < length (changes ++ (c ∷ [])) → (i ≡ length changes) ⊎ (i < length changes)
    split i l = below_suc (omega (arith, length-append changes (c ∷ [])))

    at_last : (i : ℕ) → i ≡ length changes → at (changes ++ (c ∷ [])) i ≡ c
    at_last i q = get_or_at changes c [] 0 i (sym q)

    at_earlier : (i : ℕ) → i < length changes → at (changes ++ (c ∷ [])) i ≡ at changes i
    at_earlier i k = get_or-append changes (c ∷ []) 0 i k

    last : (i : ℕ) → i ≡ length changes → LegalChange n sender (changes ++ (c ∷ [])) i
    last i q =
        let e : at (changes ++ (c ∷ [])) i ≡ c = at_last i q in
        record {
          unit = rw e unit;
          other = rw e other;
          rising =
              ⊎_elim inl
              (λ z. let k : i - 1 < length changes = omega arith in
              inr (rw (e, at_earlier (i - 1) k) (told.below (i - 1) k)))
              (equal_or_not i 0);
          body = rw e body;
        }

    earlier : (i : ℕ) → i < length changes → LegalChange n sender changes i → LegalChange n sender (changes ++ (c ∷ [])) i
    earlier i k old =
        let e : at (changes ++ (c ∷ [])) i ≡ at changes i = at_earlier i k in
        let b : at (changes ++ (c ∷ [])) (i - 1) ≡ at changes (i - 1) = at_earlier (i - 1) (omega arith) in
        record { unit = rw e old.unit; other = rw e old.other; rising = rw (e, b) old.rising; body = rw e old.body }

module _ (n me : ℕ) (old new : List ℕ) (few : n ≤ unit_limit) (own : me < n) (o : is_tree n me old ≡ true) (w : is_tree n me new ≡ true) where
  -- This unit's entry is nothing in both.
  own_same : at old me ≡ at new me
  own_same = tree_root n me old o own ∙ sym (tree_root n me new w own)

  -- "number of entries, 0 to the count less one"
  pub few_differences : length (differences n old new) ≤ n - 1
  few_differences =
      let none : change_of old new me ≡ [] = if_true (eqb (at old me) (at new me)) _ _ (eq-eqb _ _ own_same) in
      omega (
        arith,
        ap length (differences_joined n old new),
        joined_skip 1 n (change_of old new) (λ j l. one_change old new j) me none n own (le_refl n),
      )

  -- The body of an entry is removed, or sets a legal entry.
  body_legal : (j : ℕ) → j < n
      → (body_for (at new j) < change_base) × ((body_for (at new j) ≡ removed) ⊎ LegalSetting n j (body_for (at new j)))
  body_legal j l = ⊎_elim none some (tree_entry n me new w j l)
    where
      none : at new j ≡ nothing → (body_for (at new j) < change_base) × ((body_for (at new j) ≡ removed) ⊎ LegalSetting n j (body_for (at new j)))
      none z = rw (eq-eqb (at new j) nothing z) (omega arith, inl refl)

      some : TreeEntry n me new j → (body_for (at new j) < change_base) × ((body_for (at new j) ≡ removed) ⊎ LegalSetting n j (body_for (at new j)))
      some e =
          rw (ne_eqb (at new j) nothing (omega (arith, e.cost))) (
            omega (arith, tree_short n me new w few j l),
            inr (record { head = e.head; other = e.other; low = e.cost }),
          )

  -- The differences of the units below j are legal changes of units below j.
  told_below : (j : ℕ) → j ≤ n → Told n me (differences j old new) j
  unfolding differences
  told_below zero h = record { each = λ i l. absurd (not-suc-le-zero l); below = λ i l. absurd (not-suc-le-zero l) }
  told_below (suc j) h = more (told_below j (omega arith)) (body_legal j h)
    where
      more : Told n me (differences j old new) j
          → (body_for (at new j) < change_base) × ((body_for (at new j) ≡ removed) ⊎ LegalSetting n j (body_for (at new j)))
          → Told n me (differences (suc j) old new) (suc j)
      more told body = by (eqb (at old j) (at new j)) refl
        where
          by : (b : Bool) → eqb (at old j) (at new j) ≡ b
              → Told n me (differences j old new ++ (if b then [] else change j (body_for (at new j)) ∷ [])) (suc j)
          by true e = rw append-nil (record { each = told.each; below = λ i l. omega (arith, told.below i l) })
          by false e =
              let short : body_for (at new j) < change_base = body.0 in
              let unit : changed_unit (change j (body_for (at new j))) ≡ j = omega arith in
              let rest : body_of (change j (body_for (at new j))) ≡ body_for (at new j) = omega arith in
              let away : j ≢ me = λ q. eqb-false (at old j) (at new j) e (rw q own_same) in
              rw unit at
              (told_more n me (differences j old new) (change j (body_for (at new j))) (rw unit told) (rw unit h) (rw unit away)
              (rw (unit, rest) body.1))

  -- "changed units, strictly rising, below the count, never the sender", each with a legal body.
  pub legal_differences : legal_changes n me (differences n old new) ≡ true
  legal_differences = of_changes n me (differences n old new) (told_below n (le_refl n)).each

  -- An update with the differences is legal, with or without an acknowledgment.
  pub legal_update : (kind : ℕ) → update ≤ kind → kind ≤ 3
      → legal_message n (record { kind = kind; sender = me; changes = differences n old new }) ≡ true
  legal_update kind low high =
      of_legal n _ (record {
        sent-by = own;
        kind_low = omega arith;
        kind_high = high;
        entries = few_differences;
        bit = inl low;
        each = (told_below n (le_refl n)).each;
      })

-- An acknowledgment alone is legal.
pub legal_acknowledgment : (n me : ℕ) → me < n
    → legal_message n (record { kind = acknowledgment; sender = me; changes = [] }) ≡ true
legal_acknowledgment n me own =
    of_legal n _ (record {
      sent-by = own;
      kind_low = omega arith;
      kind_high = omega arith;
      entries = omega arith;
      bit = inr refl;
      each = λ i l. absurd (not-suc-le-zero l);
    })
