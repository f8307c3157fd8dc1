-- What a question at the border comes to, whichever table it is put to: a table of another length is unfit; with the right
-- length, the question is put to the numbers.
use Prim.Native.Nat.{ℕ}
use mathlib.Core.List.{List}
use mathlib.Core.Logic.{◌≢◌}
use mathlib.Core.Path.{◌≡◌, ap, ◌∙◌}
use borrow.Author.Tests.{eq-eqb, ne_eqb}
use lib.Dec.{eqb}
use lib.ListN.{length}
use Rattle.std.specs.Prelude.{if◌then◌else◌}
use Rattle.rules.specs.Tables.{words_of}

module _ (table : List ℕ) (question : List ℕ → ℕ) {many : ℕ} where
  pub wrong_asked : length table ≢ many → 2 ≡ (if eqb (length table) many then question (words_of table) else 2)
  wrong_asked h = rw (ne_eqb (length table) many h)

  pub right_asked : {words : List ℕ} {answer : ℕ} → length table ≡ many → words ≡ words_of table → answer ≡ question words
      → answer ≡ (if eqb (length table) many then question (words_of table) else 2)
  right_asked h read e = rw (eq-eqb (length table) many h) (e ∙ ap question read)
