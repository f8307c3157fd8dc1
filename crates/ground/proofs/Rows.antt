-- Laws of the definitions in specs/Rows.antt: what a row made from a function holds, what a question over all units
-- below a count tells of each, what the least and the lowest are, and that the test for equal lists tells the truth.
use Prim.Native.Nat.{ℕ, zero, suc, ◌+◌, ◌≤◌, ◌<◌, min}
use native.Mathlib.Nat.{eq-or-lt_of_le, le_of_suc-le-suc, not-suc-le-zero, lt-suc_self, le_refl}
use native.Mathlib.Numerals.{add-one}
use native.Mathlib.Omega.{arith}
use mathlib.Core.Bool.{Bool, true, false, ◌&&◌, ◌||◌, true≢false, false≢true}
use mathlib.Core.List.{List, [], ◌∷◌, ◌++◌}
use mathlib.Core.Logic.{◌⊎◌, inl, inr, ⊎_elim}
use mathlib.Core.Path.{◌≡◌, refl, sym, ap, ap₂, ◌∙◌}
use lib.Dec.{eqb, ltb}
use lib.ListN.{length, get_or, length-append, get_or-append}
use lib.Seq.{get_or_at, ext_get_or}
use borrow.Author.Tests.{ltb-true, ltb-false, eqb-true, eq-eqb}
use Rattle.std.specs.Prelude.{if◌then◌else◌}
use Rattle.ground.specs.Limits.{far}
use Rattle.ground.specs.Rows.{at, tab, every, some, least, lowest, same}
use Rattle.ground.proofs.Tests.{both, both_of, either, either_left, either_right, neither, not_both, not_yes}
use Rattle.ground.proofs.Tests.{yes_or_no, less_or_not, if_true, if_false}

-- A number below suc n is n or below n.
pub below_suc : {i n : ℕ} → i < suc n → (i ≡ n) ⊎ (i < n)
below_suc h = eq-or-lt_of_le (le_of_suc-le-suc h)

module _ {ℓ} {A : Type ℓ} where
  -- A row of n has n places.
  pub length_tab : (n : ℕ) (f : ℕ → A) → length (tab n f) ≡ n
  length_tab zero f = refl
  length_tab (suc n) f = omega (arith, length-append (tab n f) (f n ∷ []), length_tab n f)

  -- Place i of a row holds what the function gives for i.
  pub tab_at : (n : ℕ) (f : ℕ → A) (i : ℕ) (d : A) → i < n → get_or (tab n f) i d ≡ f i
  tab_at zero f i d h = absurd (not-suc-le-zero h)
  tab_at (suc n) f i d h =
      ⊎_elim
      (λ e. get_or_at (tab n f) (f n) [] d i (length_tab n f ∙ sym e) ∙ ap f (sym e))
      (λ l. get_or-append (tab n f) (f n ∷ []) d i (rw length_tab l) ∙ tab_at n f i d l)
      (below_suc h)

  -- Functions that agree below n give the same row.
  pub tab_ext : (n : ℕ) (f g : ℕ → A) → ((i : ℕ) → i < n → f i ≡ g i) → tab n f ≡ tab n g
  tab_ext zero f g h = refl
  tab_ext (suc n) f g h =
      ap₂ (λ (xs : List A) (x : A). xs ++ (x ∷ [])) (tab_ext n f g (λ i l. h i (omega arith))) (h n (lt-suc_self n))

  -- A row is made from its own places.
  pub tab_row : (n : ℕ) (xs : List A) (d : A) → length xs ≡ n → tab n (λ i. get_or xs i d) ≡ xs
  tab_row n xs d e =
      ext_get_or d (tab n (λ i. get_or xs i d)) xs (length_tab n (λ i. get_or xs i d) ∙ sym e)
      (λ i l. tab_at n (λ j. get_or xs j d) i d (rw length_tab at l))

-- What holds of every unit holds of each.
pub every_at : (n : ℕ) (p : ℕ → Bool) → every n p ≡ true → (i : ℕ) → i < n → p i ≡ true
every_at zero p e i h = absurd (not-suc-le-zero h)
every_at (suc n) p e i h =
    let b : (every n p ≡ true) × (p n ≡ true) = both (every n p) (p n) e in
    ⊎_elim (λ q. ap p q ∙ b.1) (λ l. every_at n p b.0 i l) (below_suc h)

-- What holds of each unit holds of every.
pub every_of : (n : ℕ) (p : ℕ → Bool) → ((i : ℕ) → i < n → p i ≡ true) → every n p ≡ true
every_of zero p h = refl
every_of (suc n) p h = both_of (every n p) (p n) (every_of n p (λ i l. h i (omega arith))) (h n (lt-suc_self n))

-- Tests that agree below n hold of every unit alike.
pub every_ext : (n : ℕ) (p q : ℕ → Bool) → ((i : ℕ) → i < n → p i ≡ q i) → every n p ≡ every n q
every_ext zero p q h = refl
every_ext (suc n) p q h = ap₂ ◌&&◌ (every_ext n p q (λ i l. h i (omega arith))) (h n (lt-suc_self n))

-- What holds of a unit holds of some.
pub some_of : (n : ℕ) (p : ℕ → Bool) (i : ℕ) → i < n → p i ≡ true → some n p ≡ true
some_of zero p i h e = absurd (not-suc-le-zero h)
some_of (suc n) p i h e =
    ⊎_elim
    (λ q. either_right (some n p) (p n) (ap p (sym q) ∙ e))
    (λ l. either_left (some n p) (p n) (some_of n p i l e))
    (below_suc h)

-- What holds of none does not hold of any.
pub some_none : (n : ℕ) (p : ℕ → Bool) → some n p ≡ false → (i : ℕ) → i < n → p i ≡ false
some_none n p e i h = not_yes (p i) (λ t. true≢false (sym (some_of n p i h t) ∙ e))

-- What holds of some unit holds of a unit that is found.
pub some_at : (n : ℕ) (p : ℕ → Bool) → some n p ≡ true → (i : ℕ) × (i < n) × (p i ≡ true)
some_at zero p e = absurd (false≢true e)
some_at (suc n) p e =
    ⊎_elim
    (λ s. let found : (i : ℕ) × (i < n) × (p i ≡ true) = some_at n p s in (found.0, omega arith, found.2))
    (λ s. (n, lt-suc_self n, s))
    (either (some n p) (p n) e)

-- Tests that agree below n hold of some unit alike.
pub some_ext : (n : ℕ) (p q : ℕ → Bool) → ((i : ℕ) → i < n → p i ≡ q i) → some n p ≡ some n q
some_ext zero p q h = refl
some_ext (suc n) p q h = ap₂ ◌||◌ (some_ext n p q (λ i l. h i (omega arith))) (h n (lt-suc_self n))

-- The least is at most each value.
pub least_le : (n : ℕ) (f : ℕ → ℕ) (i : ℕ) → i < n → least n f ≤ f i
least_le zero f i h = absurd (not-suc-le-zero h)
least_le (suc n) f i h =
    ⊎_elim
    (λ q. omega (arith, ap f q))
    (λ l. omega (arith, least_le n f i l))
    (below_suc h)

-- The least is at most unreachable.
pub least_far : (n : ℕ) (f : ℕ → ℕ) → least n f ≤ far
least_far zero f = le_refl far
least_far (suc n) f = omega (arith, least_far n f)

-- What is at most each value is at most the least.
pub least_greatest : (n : ℕ) (f : ℕ → ℕ) (x : ℕ) → x ≤ far → ((i : ℕ) → i < n → x ≤ f i) → x ≤ least n f
least_greatest zero f x m h = m
least_greatest (suc n) f x m h =
    omega (arith, least_greatest n f x m (λ i l. h i (omega arith)), h n (lt-suc_self n))

-- A finite least is the value of a unit.
pub least_attained : (n : ℕ) (f : ℕ → ℕ) → least n f < far → (i : ℕ) × (i < n) × (f i ≡ least n f)
least_attained zero f h = absurd (omega arith)
least_attained (suc n) f h =
    ⊎_elim
    (λ l. (n, lt-suc_self n, omega arith))
    (λ l. old l (least_attained n f (omega arith)))
    (less_or_not (f n) (least n f))
  where
    old : least n f ≤ f n → (i : ℕ) × (i < n) × (f i ≡ least n f)
        → (i : ℕ) × (i < suc n) × (f i ≡ min (least n f) (f n))
    old l found = (found.0, omega arith, omega arith)

-- Values that agree below n have the same least.
pub least_ext : (n : ℕ) (f g : ℕ → ℕ) → ((i : ℕ) → i < n → f i ≡ g i) → least n f ≡ least n g
least_ext zero f g h = refl
least_ext (suc n) f g h = ap₂ min (least_ext n f g (λ i l. h i (omega arith))) (h n (lt-suc_self n))

-- One unit more: the lowest stays where it was found, or the new unit is it.
lowest_found : (n : ℕ) (p : ℕ → Bool) → ltb (lowest n p) n || p n ≡ true → lowest (suc n) p ≡ lowest n p
lowest_found n p e = if_true (ltb (lowest n p) n || p n) (lowest n p) (suc n) e

-- One unit more: there is still none.
lowest_missed : (n : ℕ) (p : ℕ → Bool) → ltb (lowest n p) n || p n ≡ false → lowest (suc n) p ≡ suc n
lowest_missed n p e = if_false (ltb (lowest n p) n || p n) (lowest n p) (suc n) e

-- The lowest is at most the count.
pub lowest_le : (n : ℕ) (p : ℕ → Bool) → lowest n p ≤ n
lowest_le zero p = le_refl zero
lowest_le (suc n) p =
    ⊎_elim
    (λ e. omega (arith, lowest_found n p e, lowest_le n p))
    (λ e. omega (arith, lowest_missed n p e))
    (yes_or_no (ltb (lowest n p) n || p n))

-- The test holds of no unit below the lowest.
pub lowest_first : (n : ℕ) (p : ℕ → Bool) (i : ℕ) → i < lowest n p → p i ≡ false
lowest_first zero p i h = absurd (not-suc-le-zero h)
lowest_first (suc n) p i h =
    ⊎_elim
    (λ e. lowest_first n p i (rw (lowest_found n p e) at h))
    (λ e. missed (neither (ltb (lowest n p) n) (p n) e) (lowest_first n p i) (rw (lowest_missed n p e) at h))
    (yes_or_no (ltb (lowest n p) n || p n))
  where
    missed : (ltb (lowest n p) n ≡ false) × (p n ≡ false) → (i < lowest n p → p i ≡ false) → i < suc n → p i ≡ false
    missed none rest l =
        ⊎_elim (λ q. ap p q ∙ none.1) (λ k. rest (omega (arith, ltb-false))) (below_suc l)

-- The test holds of the lowest.
pub lowest_holds : (n : ℕ) (p : ℕ → Bool) → lowest n p < n → p (lowest n p) ≡ true
lowest_holds zero p h = absurd (not-suc-le-zero h)
lowest_holds (suc n) p h =
    ⊎_elim
    (λ e. ap p (lowest_found n p e) ∙ found (either (ltb (lowest n p) n) (p n) e) (lowest_holds n p))
    (λ e. absurd (omega (arith, lowest_missed n p e)))
    (yes_or_no (ltb (lowest n p) n || p n))
  where
    found : (ltb (lowest n p) n ≡ true) ⊎ (p n ≡ true) → (lowest n p < n → p (lowest n p) ≡ true)
        → p (lowest n p) ≡ true
    found (inl l) rest = rest (ltb-true (lowest n p) n l)
    found (inr e) rest = ⊎_elim (λ q. ap p q ∙ e) rest (eq-or-lt_of_le (lowest_le n p))

-- The lowest is at most each unit of which the test holds.
pub lowest_some : (n : ℕ) (p : ℕ → Bool) (i : ℕ) → i < n → p i ≡ true → lowest n p ≤ i
lowest_some n p i h e =
    ⊎_elim
    (λ l. absurd (not_both (p i) e (lowest_first n p i l)))
    (λ l. l)
    (less_or_not i (lowest n p))

-- Tests that agree below n have the same lowest unit.
pub lowest_ext : (n : ℕ) (p q : ℕ → Bool) → ((i : ℕ) → i < n → p i ≡ q i) → lowest n p ≡ lowest n q
lowest_ext zero p q h = refl
lowest_ext (suc n) p q h =
    ap₂ (λ (k : ℕ) (b : Bool). if ltb k n || b then k else suc n)
    (lowest_ext n p q (λ i l. h i (omega arith)))
    (h n (lt-suc_self n))

-- Lists that pass the test are equal.
pub same_eq : (xs ys : List ℕ) → same xs ys ≡ true → xs ≡ ys
same_eq xs ys e =
    let b : (eqb (length xs) (length ys) ≡ true) × (every (length xs) (λ i. eqb (at xs i) (at ys i)) ≡ true) =
    both (eqb (length xs) (length ys)) (every (length xs) (λ i. eqb (at xs i) (at ys i))) e in
    ext_get_or 0 xs ys (eqb-true (length xs) (length ys) b.0)
    (λ i l. eqb-true (at xs i) (at ys i) (every_at (length xs) (λ j. eqb (at xs j) (at ys j)) b.1 i l))

-- Equal lists pass the test.
pub eq_same : (xs ys : List ℕ) → xs ≡ ys → same xs ys ≡ true
eq_same xs ys e =
    both_of (eqb (length xs) (length ys)) (every (length xs) (λ i. eqb (at xs i) (at ys i)))
    (eq-eqb (length xs) (length ys) (ap length e))
    (every_of (length xs) (λ i. eqb (at xs i) (at ys i)) (λ i l. eq-eqb (at xs i) (at ys i) (ap (λ zs. at zs i) e)))

-- One more turn of a loop that tests every unit; one unit that fails the test.
pub every_more : (n : ℕ) (p : ℕ → Bool) → every n p ≡ true → p n ≡ true → every (n + 1) p ≡ true
every_more n p all last = rw add-one (both_of (every n p) (p n) all last)

pub every_not : (n : ℕ) (p : ℕ → Bool) (i : ℕ) → i < n → p i ≡ false → every n p ≡ false
every_not n p i below bad = not_yes _ (λ all. not_both _ (every_at n p all i below) bad)
