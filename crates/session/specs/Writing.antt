-- Order: what a program writes that lends an emptied buffer to each call, and writes after each call what is used of it
-- (proofs/Written.antt).
use Rattle.std.specs.Prelude.{ℕ, zero, suc, List, [], ◌∷◌, ◌++◌, length, take, drop}
use Rattle.session.specs.Feeding.{end_of}
use Rattle.session.specs.Lending.{Lent, fed}

-- The buffer is emptied, and the place to go on from is given.
abbrev pub lent_at : Lent → (place : ℕ) → Lent
lent_at lent place =
    record {
      words = lent.words;
      bytes = lent.bytes;
      meter = lent.meter;
      line = lent.line;
      held = lent.held;
      out = lent.out;
      used = 0;
      place = place;
    }

-- One call with a chunk, from where the last one stopped; what it writes; and what some calls leave and write.
abbrev pub called : Lent → (chunk : List ℕ) → Lent
called lent chunk = fed (lent_at lent lent.place) (drop lent.place chunk)

abbrev pub written_by : Lent → List ℕ
written_by lent = take lent.used lent.out

unfoldable pub left_by_calls : (calls : ℕ) → Lent → (chunk : List ℕ) → Lent
left_by_calls zero lent chunk = lent
left_by_calls (suc calls) lent chunk = left_by_calls calls (called lent chunk) chunk

unfoldable pub written_by_calls : (calls : ℕ) → Lent → (chunk : List ℕ) → List ℕ
written_by_calls zero lent chunk = []
written_by_calls (suc calls) lent chunk = written_by (called lent chunk) ++ written_by_calls calls (called lent chunk) chunk

-- As many calls as a chunk has bytes are enough to use it up; then the next chunk comes, and at last the end.
unfoldable pub written_by_chunks : Lent → (chunks : List (List ℕ)) → List ℕ
written_by_chunks lent [] = written_by (fed (lent_at lent 0) (end_of lent.held))
written_by_chunks lent (chunk ∷ chunks) =
    written_by_calls (length chunk) (lent_at lent 0) chunk
    ++ written_by_chunks (left_by_calls (length chunk) (lent_at lent 0) chunk) chunks
