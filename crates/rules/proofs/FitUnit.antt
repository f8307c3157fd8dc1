-- What the fitness test of a unit says, in plain facts, and that these facts are all that it says.
use Prim.Native.Nat.{ℕ, ◌≤◌, ◌<◌}
use native.Mathlib.Omega.{arith}
use mathlib.Core.Bool.{Bool, true, not, ◌&&◌, ◌||◌}
use mathlib.Core.List.{List}
use mathlib.Core.Logic.{◌⊎◌, inl, inr, ⊎_elim, ◌≢◌}
use mathlib.Core.Path.{◌≡◌, refl, sym, ap, ◌∙◌}
use borrow.Author.Tests.{eq-eqb, ne_eqb, eqb-true, eqb-false, lt-ltb, ltb-true, le-leb, leb-true, not-true}
use lib.Dec.{eqb, leb}
use Rattle.ground.specs.Limits.{unit_limit, highest_cost, far, longest, legal_cost}
use Rattle.ground.specs.Rows.{at, zeros, same}
use Rattle.tree.specs.Recompute.{copy_of}
use Rattle.tree.specs.Tree.{is_tree}
use Rattle.ground.proofs.Lists.{parts}
use Rattle.ground.proofs.Rows.{every_at, every_of, same_eq, eq_same}
use Rattle.ground.proofs.Tests.{both_of, either, either_left, either_right, equal_or_not, if_true, if_false}
use Rattle.rules.specs.Tables.{unit_from, fit_unit_table}
use Rattle.rules.specs.Unit.{Unit, fit_link, fit_feasible, fit_unit}

-- What a fit unit is.
pub record FitFacts (u : Unit) : Type 0 where
  pub low : 2 ≤ u.count
  pub high : u.count ≤ unit_limit
  pub me : u.me < u.count
  pub cost : (k : ℕ) → k < u.count → at u.costs k ≤ highest_cost
  pub own_cost : at u.costs u.me ≡ 0
  pub wait : (k : ℕ) → k < u.count → at u.awaited k ≤ 1
  pub wait_down : (k : ℕ) → k < u.count → at u.costs k ≡ 0 → at u.awaited k ≡ 0
  pub copy_down : (k : ℕ) → k < u.count → at u.costs k ≡ 0 → copy_of u.copies k ≡ zeros u.count
  pub copy_up : (k : ℕ) → k < u.count → at u.costs k ≢ 0 → is_tree u.count k (copy_of u.copies k) ≡ true
  pub tree : is_tree u.count u.me u.tree ≡ true
  pub own_feasible : at u.feasible u.me ≡ 0
  pub feasible : (j : ℕ) → j < u.count → j ≢ u.me → (at u.feasible j ≡ far) ⊎ (at u.feasible j ≤ longest)

module _ (u : Unit) (k : ℕ) where
  -- What is tested of a link that is down.
  abbrev pub down_test : Bool
  down_test = eqb (at u.awaited k) 0 && same (copy_of u.copies k) (zeros u.count)

  -- What is tested of one that is up.
  abbrev pub up_test : Bool
  up_test =
      not (eqb k u.me)
      && legal_cost (at u.costs k)
      && leb (at u.awaited k) 1
      && is_tree u.count k (copy_of u.copies k)

  -- The test of a link that is down.
  pub link-down : at u.costs k ≡ 0 → fit_link u k ≡ down_test
  unfolding fit_link
  link-down e = if_true (eqb (at u.costs k) 0) down_test up_test (eq-eqb _ _ e)

  -- The test of a link that is up.
  pub link_up : at u.costs k ≢ 0 → fit_link u k ≡ up_test
  unfolding fit_link
  link_up d = if_false (eqb (at u.costs k) 0) down_test up_test (ne_eqb _ _ d)

  -- What is tested of the feasible distance of another unit.
  abbrev pub far_test : Bool
  far_test = eqb (at u.feasible k) far || leb (at u.feasible k) longest

  -- The test of the own feasible distance.
  pub feasible_own : k ≡ u.me → fit_feasible u k ≡ eqb (at u.feasible k) 0
  unfolding fit_feasible
  feasible_own e = if_true (eqb k u.me) (eqb (at u.feasible k) 0) far_test (eq-eqb _ _ e)

  -- The test of another.
  pub feasible_other : k ≢ u.me → fit_feasible u k ≡ far_test
  unfolding fit_feasible
  feasible_other d = if_false (eqb k u.me) (eqb (at u.feasible k) 0) far_test (ne_eqb _ _ d)

module _ (u : Unit) (e : fit_unit u ≡ true) where
  -- The test of a link holds of each.
  link_fit : (k : ℕ) → k < u.count → fit_link u k ≡ true
  unfolding fit_unit
  link_fit k l = every_at u.count (fit_link u) (search parts) k l

  -- The test of a feasible distance holds of each.
  feasible_fit : (j : ℕ) → j < u.count → fit_feasible u j ≡ true
  unfolding fit_unit
  feasible_fit j l = every_at u.count (fit_feasible u) (search parts) j l

  -- The unit's own number is below the count.
  me_fit : u.me < u.count
  unfolding fit_unit
  me_fit = ltb-true u.me u.count (search parts)

  -- Where a link is down, its test holds.
  down_fit : (k : ℕ) → k < u.count → at u.costs k ≡ 0 → down_test u k ≡ true
  down_fit k l z = sym (link-down u k z) ∙ link_fit k l

  -- And where it is up.
  up_fit : (k : ℕ) → k < u.count → at u.costs k ≢ 0 → up_test u k ≡ true
  up_fit k l d = sym (link_up u k d) ∙ link_fit k l

  -- A unit that passes the test is fit.
  pub fit_facts : FitFacts u
  unfolding fit_unit
  fit_facts =
      record {
        low = leb-true 2 u.count (search parts);
        high = leb-true u.count unit_limit (search parts);
        me = me_fit;
        cost =
            λ k l.
            ⊎_elim
            (λ z. omega arith)
            (λ d. leb-true (at u.costs k) highest_cost (search (parts, up_fit k l d)))
            (equal_or_not (at u.costs k) 0);
        own_cost =
            ⊎_elim
            (λ z. z)
            (λ d.
            absurd
            (eqb-false u.me u.me (not-true (eqb u.me u.me) (search (parts, up_fit u.me me_fit d))) refl))
            (equal_or_not (at u.costs u.me) 0);
        wait =
            λ k l.
            ⊎_elim
            (λ z. omega (arith, eqb-true (at u.awaited k) 0 (search (parts, down_fit k l z))))
            (λ d. leb-true (at u.awaited k) 1 (search (parts, up_fit k l d)))
            (equal_or_not (at u.costs k) 0);
        wait_down = λ k l z. eqb-true (at u.awaited k) 0 (search (parts, down_fit k l z));
        copy_down = λ k l z. same_eq (copy_of u.copies k) (zeros u.count) (search (parts, down_fit k l z));
        copy_up = λ k l d. search (parts, up_fit k l d);
        tree = search parts;
        own_feasible =
            eqb-true (at u.feasible u.me) 0
            (sym (feasible_own u u.me refl) ∙ feasible_fit u.me me_fit);
        feasible =
            λ j l d.
            ⊎_elim
            (λ f. inl (eqb-true (at u.feasible j) far f))
            (λ f. inr (leb-true (at u.feasible j) longest f))
            (either (eqb (at u.feasible j) far) (leb (at u.feasible j) longest)
            (sym (feasible_other u j d) ∙ feasible_fit j l));
      }

module _ (u : Unit) (f : FitFacts u) where
  -- A link that is up leads to another unit.
  other_unit : (k : ℕ) → at u.costs k ≢ 0 → k ≢ u.me
  other_unit k d q = d (ap (at u.costs) q ∙ f.own_cost)

  -- It passes the test.
  up_of : (k : ℕ) → k < u.count → at u.costs k ≢ 0 → up_test u k ≡ true
  up_of k l d =
      let up : 1 ≤ at u.costs k = omega arith in
      rw (
        ne_eqb k u.me (other_unit k d),
        le-leb 1 (at u.costs k) up,
        le-leb (at u.costs k) highest_cost (f.cost k l),
        le-leb (at u.awaited k) 1 (f.wait k l),
        f.copy_up k l d,
      )

  -- Each link does.
  fit_link_of : (k : ℕ) → k < u.count → fit_link u k ≡ true
  fit_link_of k l =
      ⊎_elim
      (λ z.
      link-down u k z
      ∙ both_of (eqb (at u.awaited k) 0) _ (eq-eqb _ _ (f.wait_down k l z)) (eq_same _ _ (f.copy_down k l z)))
      (λ d. link_up u k d ∙ up_of k l d)
      (equal_or_not (at u.costs k) 0)

  -- A feasible distance does.
  fit_feasible_of : (j : ℕ) → j < u.count → fit_feasible u j ≡ true
  fit_feasible_of j l =
      ⊎_elim
      (λ q. feasible_own u j q ∙ eq-eqb _ _ (ap (at u.feasible) q ∙ f.own_feasible))
      (λ d.
      feasible_other u j d
      ∙ ⊎_elim
      (λ e. either_left (eqb (at u.feasible j) far) _ (eq-eqb _ _ e))
      (λ e. either_right (eqb (at u.feasible j) far) _ (le-leb _ _ e))
      (f.feasible j l d))
      (equal_or_not j u.me)

  -- A unit of which the facts hold passes the test.
  pub facts_fit : fit_unit u ≡ true
  unfolding fit_unit
  facts_fit =
      rw (
        le-leb 2 u.count f.low,
        le-leb u.count unit_limit f.high,
        lt-ltb u.me u.count f.me,
        every_of u.count (fit_link u) fit_link_of,
        f.tree,
        every_of u.count (fit_feasible u) fit_feasible_of,
      )

  -- Each feasible distance is at most unreachable.
  pub feasible_far : (j : ℕ) → j < u.count → at u.feasible j ≤ far
  feasible_far j l =
      ⊎_elim
      (λ q. omega (arith, ap (at u.feasible) q, f.own_feasible))
      (λ d. ⊎_elim (λ e. omega arith) (λ e. omega arith) (f.feasible j l d))
      (equal_or_not j u.me)

-- The unit of a fit table is fit.
pub fit_table_facts : (words : List ℕ) → fit_unit_table words ≡ true → FitFacts (unit_from words)
unfolding fit_unit_table
fit_table_facts words e = fit_facts (unit_from words) (search parts)
