-- The first word of a line: where it ends is within the line, and the parts of the line that are lent before and after that
-- place are the word and what follows it.
use Prim.Native.Nat.{ℕ, ◌-◌, ◌≤◌}
use mathlib.Core.List.{List}
use mathlib.Core.Path.{◌≡◌, ap, ◌∙◌}
use lib.ListN.{length, take, drop}
use Rattle.ground.proofs.Parts.{to_end}
use Rattle.ground.proofs.Rows.{lowest_le}
use Rattle.lines.specs.Words.{word_end, first_word, after_word}

-- A word ends within its line.
pub end_inside : (line : List ℕ) → word_end line ≤ length line
unfolding word_end
end_inside line = lowest_le (length line) _

-- What is lent of a line up to the place where its first word ends, and from it on.
module _ (line : List ℕ) (end : ℕ) (e : end ≡ word_end line) where
  pub first_lent : take end line ≡ first_word line
  first_lent = ap (λ n. take n line) e

  pub after_lent : take (length line - end) (drop end line) ≡ after_word line
  after_lent = to_end line end ∙ ap (λ n. drop n line) e
