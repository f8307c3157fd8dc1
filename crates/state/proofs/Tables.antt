-- Any numbers as a table: which hold a unit, and which are laid over.
use Prim.Native.Nat.{ℕ, ◌≤◌, ◌<◌}
use mathlib.Core.Bool.{true, ◌&&◌}
use mathlib.Core.List.{List}
use mathlib.Core.Logic.{◌≢◌}
use mathlib.Core.Path.{◌≡◌}
use borrow.Author.Tests.{eq-eqb, ne_eqb, le-leb, lt-leb}
use lib.Dec.{eqb, leb}
use lib.ListN.{length}
use Rattle.ground.specs.Limits.{unit_limit}
use Rattle.ground.specs.Rows.{at}
use Rattle.rules.specs.Tables.{unit_words, unit_from, fit_unit_table}
use Rattle.ground.proofs.Tests.{both_of, and_false, if_true, if_false}
use Rattle.state.specs.Holding.{held_of, laid_with, no_unit, held_from, with_unit}
use Rattle.state.specs.declared.held.Held.{Held}
use Rattle.state.proofs.QuestionAnswers.{loadable}

module _ (words : List ℕ) where
  -- Numbers of another length hold no unit.
  pub none_long : length words ≢ unit_words → held_from words ≡ no_unit
  unfolding held_from
  none_long h = rw (ne_eqb (length words) unit_words h)

  -- A count above the limit neither.
  pub none_counted : unit_limit < at words 0 → held_from words ≡ no_unit
  unfolding held_from
  none_counted h =
      if_false _ _ _ (and_false (eqb (length words) unit_words) (leb (at words 0) unit_limit) (lt-leb (at words 0) unit_limit h))

  -- Others do.
  pub held-from : length words ≡ unit_words → at words 0 ≤ unit_limit → held_from words ≡ held_of (unit_from words)
  unfolding held_from
  held-from long low =
      if_true _ _ _
      (both_of (eqb (length words) unit_words) (leb (at words 0) unit_limit) (eq-eqb (length words) unit_words long)
      (le-leb (at words 0) unit_limit low))

  -- A fit table holds its unit.
  pub held_fit : fit_unit_table words ≡ true → held_from words ≡ held_of (unit_from words)
  held_fit e = held-from (loadable words e).0 (loadable words e).1

module _ (words : List ℕ) (h : Held) (successors : List ℕ) where
  -- Numbers of another length stay.
  pub stays_long : length words ≢ unit_words → with_unit words h successors ≡ words
  unfolding with_unit
  stays_long d = rw (ne_eqb (length words) unit_words d)

  -- Nor is a unit laid whose numbers are above the limit.
  pub stays_counted : unit_limit < h.count → with_unit words h successors ≡ words
  unfolding with_unit
  stays_counted d =
      if_false _ _ _
      (and_false (eqb (length words) unit_words) (leb h.count unit_limit && leb h.me unit_limit) (rw (lt-leb h.count unit_limit d)))

  pub stays_placed : unit_limit < h.me → with_unit words h successors ≡ words
  unfolding with_unit
  stays_placed d =
      if_false _ _ _
      (and_false (eqb (length words) unit_words) (leb h.count unit_limit && leb h.me unit_limit)
      (and_false (leb h.count unit_limit) (leb h.me unit_limit) (lt-leb h.me unit_limit d)))

  -- A table is laid over.
  pub laid-over : length words ≡ unit_words → h.count ≤ unit_limit → h.me ≤ unit_limit
      → with_unit words h successors ≡ laid_with h successors
  unfolding with_unit
  laid-over long low place =
      if_true _ _ _
      (both_of (eqb (length words) unit_words) _ (eq-eqb (length words) unit_words long)
      (both_of (leb h.count unit_limit) (leb h.me unit_limit) (le-leb h.count unit_limit low) (le-leb h.me unit_limit place)))
