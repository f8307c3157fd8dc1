-- Whether a unit in arrays is fit: each of the code's tests is the rules' test.
use Prim.Native.Nat.{ℕ, ◌*◌, ◌≤◌, ◌<◌}
use native.Mathlib.Omega.{arith}
use mathlib.Core.Bool.{Bool, true, false, ◌||◌}
use mathlib.Core.List.{List}
use mathlib.Core.Logic.{◌≢◌}
use mathlib.Core.Path.{◌≡◌, sym, ap, ◌∙◌}
use borrow.Author.Tests.{eq-eqb, ne_eqb, le-leb, leb-true, lt-ltb}
use lib.Dec.{eqb, leb}
use lib.ListN.{length, take}
use lib.Seq.{get_or-take}
use Rattle.std.specs.Prelude.{if◌then◌else◌}
use Rattle.ground.specs.Limits.{unit_limit, highest_cost, far, longest}
use Rattle.ground.specs.Rows.{at, zeros, every, same}
use Rattle.tree.specs.Recompute.{copy_of}
use Rattle.tree.specs.Tree.{is_tree}
use Rattle.rules.specs.Tables.{unit_words, laid_unit, unit_from, fit_unit_table}
use Rattle.rules.specs.Unit.{Unit, fit_link, fit_feasible, fit_unit}
use Rattle.ground.proofs.Lists.{parts}
use Rattle.ground.proofs.Rows.{every_ext}
use Rattle.ground.proofs.Tests.{not_yes, not_both}
use Rattle.rules.proofs.FitUnit.{up_test, link-down, link_up, fit_facts, facts_fit, fit_table_facts}
use Rattle.rules.proofs.Laid.{part_length}
use Rattle.recomputing.specs.Flat.{flat_length, copy_in, row_in}
use Rattle.recomputing.proofs.CopiedRows.{row_copy}
use Rattle.state.specs.Holding.{unit_of}
use Rattle.state.specs.declared.held.Held.{Held}
use Rattle.recomputing.proofs.CopiedRows.{copy-of}

module _ (h : Held) (k : ℕ) (l : k < h.count) where
  -- The cost of a link is the array's number.
  cost-at : at (unit_of h).costs k ≡ at h.costs k
  cost-at = get_or-take h.count h.costs k 0 l

  -- So is the wait.
  wait_at : at (unit_of h).awaited k ≡ at h.awaited k
  wait_at = get_or-take h.count h.awaited k 0 l

  -- So is the feasible distance.
  feasible-at : at (unit_of h).feasible k ≡ at h.feasible k
  feasible-at = get_or-take h.count h.feasible k 0 l

  -- The copy is its part of the flat row.
  copy_at : copy_of (unit_of h).copies k ≡ copy_in h.count h.copies k
  copy_at = copy-of h.count h.copies k l

  -- A link that is down, with a wait.
  pub down_wait : at h.costs k ≡ 0 → at h.awaited k ≢ 0 → fit_link (unit_of h) k ≡ false
  down_wait z w =
      link-down (unit_of h) k (cost-at ∙ z)
      ∙ rw (ne_eqb (at (unit_of h).awaited k) 0 (λ e. w (sym wait_at ∙ e)))

  -- A link that is down, without: its copy decides.
  pub down_copy : at h.costs k ≡ 0 → at h.awaited k ≡ 0
      → fit_link (unit_of h) k ≡ same (copy_in h.count h.copies k) (zeros h.count)
  down_copy z w =
      link-down (unit_of h) k (cost-at ∙ z) ∙ rw (eq-eqb (at (unit_of h).awaited k) 0 (wait_at ∙ w), copy_at)

  module _ (up : at h.costs k ≢ 0) where
    -- A link that is up.
    up-test : fit_link (unit_of h) k ≡ up_test (unit_of h) k
    up-test = link_up (unit_of h) k (λ e. up (sym cost-at ∙ e))

    -- It leads to the unit itself.
    pub up_self : k ≡ h.me → fit_link (unit_of h) k ≡ false
    up_self e = up-test ∙ rw (eq-eqb k h.me e)

    -- Its cost is too high.
    pub up_high : highest_cost < at h.costs k → fit_link (unit_of h) k ≡ false
    up_high e =
        not_yes (fit_link (unit_of h) k) (λ t.
        let test = sym up-test ∙ t in
        omega (arith, cost-at, leb-true (at (unit_of h).costs k) highest_cost (search (parts, test))))

    -- Its wait is no truth value.
    pub up_wait : 1 < at h.awaited k → fit_link (unit_of h) k ≡ false
    up_wait e =
        not_yes (fit_link (unit_of h) k) (λ t.
        let test = sym up-test ∙ t in
        omega (arith, wait_at, leb-true (at (unit_of h).awaited k) 1 (search (parts, test))))

    -- Else its copy decides.
    pub up_copy : k ≢ h.me → at h.costs k ≤ highest_cost → at h.awaited k ≤ 1
        → fit_link (unit_of h) k ≡ is_tree h.count k (copy_in h.count h.copies k)
    up_copy other low wait =
        let one : 1 ≤ at h.costs k = omega arith in
        up-test
        ∙ rw (
          ne_eqb k h.me other,
          cost-at,
          le-leb 1 (at h.costs k) one,
          le-leb (at h.costs k) highest_cost low,
          wait_at,
          le-leb (at h.awaited k) 1 wait,
          copy_at,
        )

-- The first n numbers of a copy's row are the copy, and have a place for each unit.
pub row_lent : (n : ℕ) (flat : List ℕ) (k : ℕ) → k < n → n ≤ unit_limit → length flat ≡ flat_length → {row : List ℕ}
    → row ≡ row_in flat k
    → {A : Type 0} (f : ℕ → List ℕ → A)
    → f (length (take n row)) (take n row) ≡ f n (copy_in n flat k)
row_lent n flat k l h e q f =
    let long : length (copy_in n flat k) ≡ n = part_length flat (k * unit_limit) n (omega arith) in
    let copy = ap (take n) q ∙ row_copy n flat k e h l in
    ap (λ (xs : List ℕ). f (length xs) xs) copy ∙ ap (λ (m : ℕ). f m (copy_in n flat k)) long

-- The test of a feasible distance, from the arrays alone.
abbrev pub feasible_test : (me : ℕ) (feasible : List ℕ) (j : ℕ) → Bool
feasible_test me feasible j =
    if eqb j me then eqb (at feasible j) 0
    else eqb (at feasible j) far || leb (at feasible j) longest

-- It is the rules' test.
pub feasible-test : (h : Held)
    → every h.count (feasible_test h.me h.feasible) ≡ every h.count (fit_feasible (unit_of h))
unfolding fit_feasible
feasible-test h =
    every_ext h.count (feasible_test h.me h.feasible) (fit_feasible (unit_of h))
    (λ j l. ap (λ (d : ℕ). if eqb j h.me then eqb d 0 else eqb d far || leb d longest) (sym (feasible-at h j l)))

module _ (u : Unit) where
  -- A unit of too few units isn't fit.
  pub few_units : u.count < 2 → fit_unit u ≡ false
  few_units h = not_yes (fit_unit u) (λ t. omega (arith, (fit_facts u t).low))

  -- One of too many isn't.
  pub many_units : unit_limit < u.count → fit_unit u ≡ false
  many_units h = not_yes (fit_unit u) (λ t. omega (arith, (fit_facts u t).high))

  -- One whose own number is no unit's isn't.
  pub no-unit : u.count ≤ u.me → fit_unit u ≡ false
  no-unit h = not_yes (fit_unit u) (λ t. omega (arith, (fit_facts u t).me))

  -- One with an unfit link isn't.
  pub bad_link : every u.count (fit_link u) ≡ false → fit_unit u ≡ false
  unfolding fit_unit
  bad_link e = not_yes (fit_unit u) (λ t. not_both (every u.count (fit_link u)) (search (parts, t)) e)

  -- One whose tree is none isn't.
  pub bad_tree : is_tree u.count u.me u.tree ≡ false → fit_unit u ≡ false
  bad_tree e = not_yes (fit_unit u) (λ t. not_both (is_tree u.count u.me u.tree) (fit_facts u t).tree e)

  -- Where all these are right, the feasible distances decide.
  pub by_feasible : 2 ≤ u.count → u.count ≤ unit_limit → u.me < u.count → every u.count (fit_link u) ≡ true
      → is_tree u.count u.me u.tree ≡ true → fit_unit u ≡ every u.count (fit_feasible u)
  unfolding fit_unit
  by_feasible low high me links tree =
      rw (le-leb 2 u.count low, le-leb u.count unit_limit high, lt-ltb u.me u.count me, links, tree)

module _ (words : List ℕ) where
  -- A table of the wrong length isn't fit.
  pub bad_length : length words ≢ unit_words → fit_unit_table words ≡ false
  unfolding fit_unit_table
  bad_length d = rw (ne_eqb (length words) unit_words d)

  -- One of an unfit unit isn't.
  pub bad_unit : fit_unit (unit_from words) ≡ false → fit_unit_table words ≡ false
  bad_unit e =
      not_yes (fit_unit_table words) (λ t.
      not_both (fit_unit (unit_from words)) (facts_fit (unit_from words) (fit_table_facts words t)) e)

  -- One whose count is too high isn't.
  pub bad_count : unit_limit < at words 0 → fit_unit_table words ≡ false
  unfolding unit_from
  bad_count h = bad_unit (many_units (unit_from words) h)

  -- Else what the unit lays out decides.
  pub by_laid : length words ≡ unit_words → fit_unit (unit_from words) ≡ true
      → fit_unit_table words ≡ same words (laid_unit (unit_from words))
  unfolding fit_unit_table
  by_laid long fit = rw (eq-eqb (length words) unit_words long, fit)
