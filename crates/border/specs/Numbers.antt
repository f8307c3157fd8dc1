-- Order: the number in the 4 bytes from a place on, high byte first; proofs/Numbers.antt shows that it is one of `words_of`.
use Rattle.std.specs.Prelude.{ℕ, ◌+◌, ◌*◌, List}
use Rattle.ground.specs.Rows.{at}

abbrev pub word_at : (bytes : List ℕ) (from : ℕ) → ℕ
word_at bytes from =
    at bytes from * 16777216 + at bytes (from + 1) * 65536 + at bytes (from + 2) * 256 + at bytes (from + 3)
