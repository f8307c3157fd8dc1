-- Words: texts put into a buffer behind what is used.
use Rattle.std.specs.Prelude.{ℕ, ◌+◌, min, max, List, length}
use Rattle.std.proofs.lemmas.List.Edits.{sets}

-- What a buffer holds once a text is put into it: its bytes stored one by one, those left out that have no room. So where
-- all have room, the text is laid.
unfoldable pub put_after : (used : ℕ) (text buffer : List ℕ) → List ℕ
put_after used text buffer = sets buffer used text

-- The bytes used then: no more than the buffer has, unless more were used before.
abbrev pub used_after : (used : ℕ) (text buffer : List ℕ) → ℕ
used_after used text buffer = max used (min (length buffer) (used + length text))
