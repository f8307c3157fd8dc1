-- Bytes taken up to a newline: a loop that takes them one by one, and what they make of what is lent.
use Prim.Native.Nat.{ℕ, ◌+◌, ◌≤◌, ◌<◌}
use native.Mathlib.Numerals.{add-one}
use mathlib.Core.Bool.{true, false}
use mathlib.Core.List.{List, [], ◌∷◌}
use mathlib.Core.Logic.{◌≢◌}
use mathlib.Core.Path.{◌≡◌, ap}
use borrow.Author.Tests.{eq-eqb, ne_eqb}
use lib.ListN.{length, drop, drop_of_length-le}
use lib.Seq.{drop-cons}
use Rattle.ground.specs.Bytes.{newline}
use Rattle.ground.specs.Rows.{at}
use Rattle.slices.proofs.Putting.{Put}
use Rattle.session.specs.Taking.{Taking, taken}

module _ (line chunk : List ℕ) (held place : ℕ) where
  -- The chunk has no byte from the place on.
  pub taken_none : length chunk ≤ place
      → taken line held place (drop place chunk) ≡ record { line = line; held = held; place = place; whole = false }
  unfolding taken
  taken_none past = rw (drop_of_length-le chunk {i = place} past)

  module _ (inside : place < length chunk) where
    -- The next byte is a newline.
    pub taken_newline : at chunk place ≡ newline
        → taken line held place (drop place chunk) ≡ record { line = line; held = held; place = place + 1; whole = true }
    unfolding taken
    taken_newline ends = rw (drop-cons chunk place 0 inside, eq-eqb (at chunk place) newline ends, add-one place)

    -- It is another one.
    pub taken_more : at chunk place ≢ newline → {held' : ℕ} {line' : List ℕ} → Put line held (at chunk place ∷ []) held' line'
        → taken line' held' (place + 1) (drop (place + 1) chunk) ≡ taken line held place (drop place chunk)
    unfolding taken
    taken_more other put =
        rw (drop-cons chunk place 0 inside, ne_eqb (at chunk place) newline other, add-one place, put.0, put.1)

-- What is known of each part of what is taken.
pub taken_told : {t all : Taking} → t ≡ all
    → (t.held ≡ all.held) × ((t.place ≡ all.place) × ((t.whole ≡ all.whole) × (t.line ≡ all.line)))
taken_told e = (ap (λ t. t.held) e, (ap (λ t. t.place) e, (ap (λ t. t.whole) e, ap (λ t. t.line) e)))
