-- An update carries a tree over: the differences of a new tree from an old one, applied to the old, give the new.
use Prim.Native.Nat.{ℕ, zero, suc, ◌≤◌, ◌<◌}
use native.Mathlib.Nat.{le_refl, not-suc-le-zero}
use native.Mathlib.Numerals.{add-one}
use native.Mathlib.Omega.{arith}
use mathlib.Core.Bool.{Bool, false, ◌||◌}
use mathlib.Core.List.{List, [], ◌∷◌, ◌++◌, append-nil}
use mathlib.Core.Path.{◌≡◌, refl, sym, ap, ap₂, ◌∙◌}
use lib.Dec.{eqb}
use lib.ListN.{length, set, length-append, get_or-append}
use lib.Seq.{get_or_at, ext_get_or, set-get_or, get_or-set_same, get_or-set_other}
use borrow.Author.Tests.{eqb-true, eq-eqb, ne_eqb}
use Rattle.ground.specs.Limits.{change_base}
use Rattle.ground.specs.Rows.{at, some}
use Rattle.ground.proofs.Rows.{some_ext}
use Rattle.ground.proofs.Tests.{neither_of}
use Rattle.tree.specs.Tree.{nothing}
use Rattle.rules.specs.Event.{changes_nothing}
use Rattle.rules.specs.Message.{change, changed_unit, body_of, removed, entry_of, body_for, differences, applied}
use Rattle.rules.proofs.Applied.{with_change, applied_more, length_applied}
use Rattle.ground.proofs.Cases.{by_test, by_equal}

-- The body of an entry below the body for a removed one gives it back, and is short itself.
body_back : (e : ℕ) → e < removed → (entry_of (body_for e) ≡ e) × (body_for e < change_base)
body_back e c =
    by_equal e nothing
    (λ z. rw (eq-eqb e nothing z) (sym z, omega arith))
    (λ z. rw (ne_eqb e nothing z, ne_eqb e removed (omega arith)) (refl, omega arith))

-- Its change names its unit and the entry.
change_back : (j e : ℕ) → e < removed
    → (changed_unit (change j (body_for e)) ≡ j) × (entry_of (body_of (change j (body_for e))) ≡ e)
change_back j e c =
    let b : (entry_of (body_for e) ≡ e) × (body_for e < change_base) = body_back e c in
    let s : body_for e < change_base = b.1 in
    let w : body_of (change j (body_for e)) ≡ body_for e = omega arith in
    (omega arith, rw w b.0)

-- So it sets its unit's entry.
set_change : (copy : List ℕ) (j e : ℕ) → e < removed → with_change copy (change j (body_for e)) ≡ set copy j e
set_change copy j e c = rw ((change_back j e c).0, (change_back j e c).1)

-- Whether some change changes nothing, with one change more.
nothing_more : (copy changes : List ℕ) (c : ℕ)
    → changes_nothing copy (changes ++ (c ∷ []))
    ≡ changes_nothing copy changes || eqb (at copy (changed_unit c)) (entry_of (body_of c))
unfolding changes_nothing
nothing_more copy changes c =
    ap (λ (k : ℕ). some k (idle (changes ++ (c ∷ [])))) (length-append changes (c ∷ []) ∙ add-one (length changes))
    ∙ ap₂ ◌||◌
    (some_ext (length changes) (idle (changes ++ (c ∷ []))) (idle changes)
    (λ i l. ap names (get_or-append changes (c ∷ []) 0 i l)))
    (ap names (get_or_at changes c [] 0 (length changes) refl))
  where
    names : ℕ → Bool
    names d = eqb (at copy (changed_unit d)) (entry_of (body_of d))

    idle : List ℕ → ℕ → Bool
    idle list i = names (at list i)

-- The differences of the units below j set these units' entries and leave the others.
record Carries (old new : List ℕ) (j : ℕ) : Type 0 where
  told : (x : ℕ) → x < j → at (applied old (differences j old new)) x ≡ at new x
  left : (x : ℕ) → j ≤ x → at (applied old (differences j old new)) x ≡ at old x

module _ (n : ℕ) (old new : List ℕ) (fits : (x : ℕ) → x < n → at new x < removed) (o : length old ≡ n) where
  -- What the differences of the units below j make of the old tree.
  abbrev told_below : ℕ → List ℕ
  told_below j = applied old (differences j old new)

  -- One unit more: its entry is set, or was right already.
  one_more : (j : ℕ) → j < n → Carries old new j → told_below (suc j) ≡ set (told_below j) j (at new j)
  unfolding differences
  one_more j h c =
      by_test (eqb (at old j) (at new j))
      (λ e. rw (e, append-nil (differences j old new))
      (sym (set-get_or (told_below j) j 0)
      ∙ ap (set (told_below j) j) (c.left j (le_refl j) ∙ eqb-true (at old j) (at new j) e)))
      (λ e. rw (e, applied_more) (set_change (told_below j) j (at new j) (fits j h)))

  -- The differences of the units below j set these units' entries and leave the others.
  carries : (j : ℕ) → j ≤ n → Carries old new j
  unfolding differences applied
  carries zero h = record { told = λ x l. absurd (not-suc-le-zero l); left = λ x l. refl }
  carries (suc j) h = more (carries j (omega arith))
    where
      more : Carries old new j → Carries old new (suc j)
      more c =
          let s : told_below (suc j) ≡ set (told_below j) j (at new j) = one_more j h c in
          record {
            told = λ x l. rw s (by_equal x j
                (λ e. rw (e, get_or-set_same (told_below j) j (at new j) 0 (rw (length_applied old (differences j old new), o) h)))
                (λ d. rw (get_or-set_other (told_below j) j x (at new j) 0 d) (c.told x (omega arith))));
            left = λ x l.
                rw (s, get_or-set_other (told_below j) j x (at new j) 0 (omega arith)) (c.left x (omega arith));
          }

  -- The differences of all units, applied to the old tree, give the new tree.
  pub differences_carry : length new ≡ n → applied old (differences n old new) ≡ new
  differences_carry w =
      let l : length (told_below n) ≡ n = length_applied old (differences n old new) ∙ o in
      ext_get_or 0 (told_below n) new (l ∙ sym w) (λ x h. (carries n (le_refl n)).told x (omega arith))

  -- Each of the differences of the units below j changes something in the old tree.
  changes_below : (j : ℕ) → j ≤ n → changes_nothing old (differences j old new) ≡ false
  unfolding differences changes_nothing
  changes_below zero h = refl
  changes_below (suc j) h =
      let rest : changes_nothing old (differences j old new) ≡ false = changes_below j (omega arith) in
      let back = change_back j (at new j) (fits j h) in
      by_test (eqb (at old j) (at new j))
      (λ e. rw (e, append-nil (differences j old new)) rest)
      (λ e. rw (e, nothing_more old (differences j old new) (change j (body_for (at new j))), back.0, back.1)
      (neither_of (changes_nothing old (differences j old new)) (eqb (at old j) (at new j)) rest e))

  -- Each of the differences of all units does.
  pub differences_change : changes_nothing old (differences n old new) ≡ false
  differences_change = changes_below n (le_refl n)
