-- Questions whose answer stands in a row of the table as it is: a row's number is the unit's, and small enough to be answered.
use Prim.Native.Nat.{ℕ, ◌+◌, ◌^◌, ◌≤◌, ◌<◌}
use native.Mathlib.Omega.{arith}
use mathlib.Core.List.{List}
use mathlib.Core.Logic.{◌≢◌, ⊎_elim}
use mathlib.Core.Path.{◌≡◌, sym, ap, ◌∙◌}
use borrow.Author.Tests.{ne_eqb}
use lib.Dec.{eqb}
use lib.ListN.{length}
use Rattle.ground.specs.Limits.{unit_limit}
use Rattle.ground.specs.Refusal.{accepted}
use Rattle.ground.specs.Rows.{at}
use Rattle.rules.specs.Hub.{hub_answer, question_refusal, successors_answer, link_answer, awaits_answer}
use Rattle.rules.specs.Tables.{costs_at, awaited_at, successors_at, unit_words, part, unit_from}
use Rattle.rules.specs.Unit.{successor_set}
use Rattle.ground.proofs.Lists.{tab_part}
use Rattle.ground.proofs.Rows.{tab_at}
use Rattle.ground.proofs.Tests.{equal_or_not, if_false}
use Rattle.rules.proofs.FitUnit.{fit_table_facts}
use Rattle.state.specs.Asked.{Listed, listed_answer}
use Rattle.state.proofs.QuestionAnswers.{loadable, Asked, asked, set_below, fit_set}

-- The row stands in the table whole.
pub listed_within : (row : ℕ) → Listed row → row + unit_limit ≤ unit_words
listed_within row = ⊎_elim (λ e. omega arith) (⊎_elim (λ e. omega arith) (λ e. omega arith))

module _ (words : List ℕ) (to : ℕ) where
  -- The number at a place of a part of the table.
  part_at : (from n : ℕ) → from + n ≤ length words → to < n → at (part words from n) to ≡ at words (from + to)
  part_at from n h l =
      ap (λ (xs : List ℕ). at xs to) (sym (tab_part from n words h)) ∙ tab_at n (λ k. at words (from + k)) to 0 l

  module _ (a : Asked words to) where
    -- The cost and the wait of a fit table are its unit's.
    cost-at : at words (costs_at + to) ≡ at (unit_from words).costs to
    unfolding unit_from
    cost-at =
        let known = loadable words a.fit in
        sym (part_at costs_at (at words 0) (omega (arith, known.0, known.1)) a.below)

    wait_at : at words (awaited_at + to) ≡ at (unit_from words).awaited to
    unfolding unit_from
    wait_at =
        let known = loadable words a.fit in
        sym (part_at awaited_at (at words 0) (omega (arith, known.0, known.1)) a.below)

    -- 100 plus such a number fits an answer.
    pub listed_small : (row : ℕ) → Listed row → at words (row + to) < 2 ^ unit_limit
    listed_small row =
        let f = fit_table_facts words a.fit in
        let here : (start : ℕ) → row ≡ start → at words (row + to) ≡ at words (start + to) =
        λ start e. ap (λ (r : ℕ). at words (r + to)) e in
        ⊎_elim
        (λ e. omega (arith, here successors_at e, fit_set words to a, set_below (unit_from words) to f.high))
        (⊎_elim
        (λ e. omega (arith, here costs_at e, cost-at, f.cost to a.below))
        (λ e. omega (arith, here awaited_at e, wait_at, f.wait to a.below)))

  -- A row's number that is the unit's is the answer.
  listed_as : (row value : ℕ) → (Asked words to → at words (row + to) ≡ value)
      → listed_answer words row to ≡ hub_answer (question_refusal words to) value
  unfolding listed_answer
  listed_as row value same =
      ⊎_elim
      (λ e. ap (hub_answer (question_refusal words to)) (same (asked words to e)))
      (λ d. kept d (at words (row + to)) ∙ sym (kept d value))
      (equal_or_not (question_refusal words to) accepted)
    where
      kept : question_refusal words to ≢ accepted → (v : ℕ) → hub_answer (question_refusal words to) v ≡ question_refusal words to
      kept d v = if_false (eqb (question_refusal words to) accepted) _ _ (ne_eqb _ accepted d)

  pub successors_listed : listed_answer words successors_at to ≡ successors_answer words to
  unfolding successors_answer
  successors_listed = listed_as successors_at (successor_set (unit_from words) to) (fit_set words to)

  pub link_listed : listed_answer words costs_at to ≡ link_answer words to
  unfolding link_answer
  link_listed = listed_as costs_at (at (unit_from words).costs to) cost-at

  pub awaits_listed : listed_answer words awaited_at to ≡ awaits_answer words to
  unfolding awaits_answer
  awaits_listed = listed_as awaited_at (at (unit_from words).awaited to) wait_at
