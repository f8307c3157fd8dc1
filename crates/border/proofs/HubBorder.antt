-- What a unit's calls and questions at the border come to: a table of another length is unfit; with the right length, what is
-- done with the numbers is what is done with the bytes.
use Prim.Native.Nat.{ℕ}
use mathlib.Core.Bool.{true, false}
use mathlib.Core.List.{List}
use mathlib.Core.Logic.{◌≢◌, ⊎_elim}
use mathlib.Core.Path.{◌≡◌, sym, ap, ◌∙◌}
use borrow.Author.Tests.{eq-eqb, ne_eqb, eqb-true}
use lib.Dec.{eqb}
use lib.ListN.{length}
use Rattle.ground.specs.Limits.{legal_count}
use Rattle.rules.specs.Hub.{HubCall, table_answer, table_after, buffer_after, fresh_table_answer, fresh_table}
use Rattle.rules.specs.Tables.{unit_words, bytes_of, words_of}
use Rattle.ground.proofs.Lists.{Under}
use Rattle.ground.proofs.Tests.{yes_or_no}
use Rattle.rules.proofs.Words.{bytes_lay_back}
use Rattle.border.specs.HubBytes.{table_bytes, border_answer, border_table, border_buffer, border_fresh_answer, border_fresh_table}
use Rattle.border.proofs.Numbers.{length_words}

-- A table of another length is unfit; a call leaves it and the buffer as they came.
pub wrong_length : (table buffer : List ℕ) (call : HubCall) → length table ≢ table_bytes
    → (2 ≡ border_answer table (length buffer) call)
    × ((table ≡ border_table table (length buffer) call) × (buffer ≡ border_buffer table buffer call))
unfolding border_answer border_table border_buffer
wrong_length table buffer call h =
    let other = ne_eqb (length table) table_bytes h in
    (rw other, (rw other, rw other))

-- With the right length, what is done with the numbers is what is done with the bytes.
pub right_length : (table buffer : List ℕ) (call : HubCall) (words after bytes sent : List ℕ) (answer : ℕ)
    → length table ≡ table_bytes
    → words ≡ words_of table
    → (answer ≡ table_answer words (length buffer) call)
    × ((after ≡ table_after words (length buffer) call) × (sent ≡ buffer_after words buffer call))
    → bytes ≡ bytes_of after
    → (answer ≡ border_answer table (length buffer) call)
    × ((bytes ≡ border_table table (length buffer) call) × (sent ≡ border_buffer table buffer call))
unfolding border_answer border_table border_buffer
right_length table buffer call words after bytes sent answer h read done laid =
    let right = eq-eqb (length table) table_bytes h in (
      rw (right, ← read) done.0,
      (rw (right, ← read) (laid ∙ ap bytes_of done.1.0), rw (right, ← read) done.1.1),
    )

-- The fresh unit: a count that is not legal is refused first, and the table stays.
pub fresh_count : (table : List ℕ) (n me : ℕ) → Under 256 table → legal_count n ≡ false
    → (1 ≡ border_fresh_answer table n me) × (table ≡ border_fresh_table table n me)
unfolding border_fresh_answer border_fresh_table fresh_table
fresh_count table n me small bad =
    (rw bad, ⊎_elim right (λ other. rw other) (yes_or_no (eqb (length table) table_bytes)))
  where
    right : eqb (length table) table_bytes ≡ true → table ≡ border_fresh_table table n me
    right e = rw (e, bad) (sym (bytes_lay_back table unit_words small (eqb-true (length table) table_bytes e)))

-- Then a table of another length.
pub fresh_length : (table : List ℕ) (n me : ℕ) → legal_count n ≡ true → length table ≢ table_bytes
    → (2 ≡ border_fresh_answer table n me) × (table ≡ border_fresh_table table n me)
unfolding border_fresh_answer border_fresh_table
fresh_length table n me legal h =
    let other = ne_eqb (length table) table_bytes h in
    (rw (legal, other), rw other)

-- With the right length, what is done with the numbers is what is done with the bytes.
pub fresh_right : (table : List ℕ) (n me : ℕ) (words after bytes : List ℕ) (answer : ℕ)
    → length table ≡ table_bytes
    → words ≡ words_of table
    → (answer ≡ fresh_table_answer words n me) × (after ≡ fresh_table words n me)
    → bytes ≡ bytes_of after
    → (answer ≡ border_fresh_answer table n me) × (bytes ≡ border_fresh_table table n me)
unfolding border_fresh_answer border_fresh_table fresh_table_answer
fresh_right table n me words after bytes answer h read done laid =
    let right = eq-eqb (length table) table_bytes h in
    let many : length words ≡ unit_words = ap length read ∙ length_words table unit_words h in
    let same = eq-eqb (length words) unit_words many in (
      rw right (rw same at done.0),
      rw (right, ← read) (laid ∙ ap bytes_of done.1),
    )
