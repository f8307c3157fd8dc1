-- Tables as bytes, 4 for each number, high byte first: numbers are read back from their bytes, and bytes are those that
-- their numbers are laid as.
use Prim.Native.Nat.{ℕ, zero, suc, ◌+◌, ◌*◌, ◌/◌, ◌%◌, ◌^◌, ◌≤◌, ◌<◌}
use native.Mathlib.Omega.{arith}
use mathlib.Core.List.{List, [], ◌∷◌, ◌++◌, map, append-nil}
use mathlib.Core.Path.{◌≡◌, refl, ap, ◌∙◌}
use lib.ListN.{length, take, drop}
use lib.Seq.{take_all}
use Rattle.ground.specs.Rows.{at, tab, joined}
use Rattle.ground.proofs.Lists.{map_tab, at_from, tab_part, Under, under_tab, Wide, map_length, map_first, joined_parts}
use Rattle.ground.proofs.Rows.{tab_ext, tab_row}
use Rattle.rules.specs.Tables.{bytes_of, words_of}

-- The four bytes of one number.
four : ℕ → List ℕ
four w = w / 16777216 % 256 ∷ w / 65536 % 256 ∷ w / 256 % 256 ∷ w % 256 ∷ []

-- The numbers are laid one after the other, in blocks of four.
fours : (ws : List ℕ) → bytes_of ws ≡ joined (map four ws)
unfolding bytes_of four
fours [] = refl
fours (w ∷ ws) = ap (λ bs. four w ++ bs) (fours ws)

-- Each has 4 bytes.
four_each : (ws : List ℕ) → Wide 4 four ws 0
unfolding four
four_each ws i l = refl

-- There are 4 bytes for each number.
pub length_bytes : (ws : List ℕ) → length (bytes_of ws) ≡ 4 * length ws
length_bytes ws = omega (arith, ap length (fours ws), map_length 4 four ws 0 (four_each ws))

-- From the bytes of number i on there are those, and then more.
from_word : (ws : List ℕ) (i : ℕ) → i < length ws
    → (more : List ℕ) × (drop (4 * i) (bytes_of ws) ≡ four (at ws i) ++ more)
from_word ws i l =
    let e : 4 * i ≡ i * 4 = omega arith in
    rw (fours ws, e, ← append-nil (joined (map four ws))) (map_first 4 four ws 0 (four_each ws) [] i l)

-- A number that fits 4 bytes is made of them.
digits_back : (w : ℕ) → w < 2 ^ 32
    → w / 16777216 % 256 * 16777216 + w / 65536 % 256 * 65536 + w / 256 % 256 * 256 + w % 256 ≡ w
digits_back w h =
    let e : w / 16777216 % 256 ≡ w / 16777216 = omega arith in
    omega arith

-- The number that the bytes hold at place i.
word_at : List ℕ → ℕ → ℕ
word_at bs i =
    at bs (4 * i) * 16777216 + at bs (4 * i + 1) * 65536 + at bs (4 * i + 2) * 256 + at bs (4 * i + 3)

-- Number i is read back.
word_back : (ws : List ℕ) → Under (2 ^ 32) ws → (i : ℕ) → i < length ws → word_at (bytes_of ws) i ≡ at ws i
unfolding word_at four
word_back ws small i l =
    let read = at_from (4 * i) (bytes_of ws) _ (from_word ws i l).1 in
    let first : at (bytes_of ws) (4 * i) ≡ at ws i / 16777216 % 256 = read 0 (4 * i) (omega arith) in
    let second : at (bytes_of ws) (4 * i + 1) ≡ at ws i / 65536 % 256 = read 1 _ refl in
    let third : at (bytes_of ws) (4 * i + 2) ≡ at ws i / 256 % 256 = read 2 _ refl in
    let fourth : at (bytes_of ws) (4 * i + 3) ≡ at ws i % 256 = read 3 _ refl in
    rw (first, second, third, fourth) (digits_back (at ws i) (small i))

-- Numbers that fit 4 bytes are read back from their bytes.
pub words_read_back : (ws : List ℕ) → Under (2 ^ 32) ws → words_of (bytes_of ws) ≡ ws
unfolding words_of word_at
words_read_back ws small =
    let e : length (bytes_of ws) / 4 ≡ length ws = omega (arith, length_bytes ws) in
    rw e (tab_ext (length ws) (word_at (bytes_of ws)) (at ws) (word_back ws small) ∙ tab_row (length ws) ws 0 refl)

-- The four bytes of a number that is made of bytes.
digits : (a b c d : ℕ) → a < 256 → b < 256 → c < 256 → d < 256
    → four (a * 16777216 + b * 65536 + c * 256 + d) ≡ a ∷ b ∷ c ∷ d ∷ []
unfolding four
digits a b c d p q r s =
    let w = a * 16777216 + b * 65536 + c * 256 + d in
    let first : w / 16777216 % 256 ≡ a = omega arith in
    let second : w / 65536 % 256 ≡ b = omega arith in
    let third : w / 256 % 256 ≡ c = omega arith in
    let fourth : w % 256 ≡ d = omega arith in
    λ i. first i ∷ second i ∷ third i ∷ fourth i ∷ []

-- The bytes of number i are those that it was read from.
part_back : (bs : List ℕ) → Under 256 bs → (i : ℕ) → i * 4 + 4 ≤ length bs → four (word_at bs i) ≡ take 4 (drop (i * 4) bs)
unfolding word_at
part_back bs small i l =
    let first : 4 * i ≡ i * 4 + 0 = omega arith in
    let later : 4 * i ≡ i * 4 = omega arith in
    digits (at bs (4 * i)) (at bs (4 * i + 1)) (at bs (4 * i + 2)) (at bs (4 * i + 3)) (small _) (small _) (small _) (small _)
    ∙ (λ j. at bs (first j) ∷ at bs (later j + 1) ∷ at bs (later j + 2) ∷ at bs (later j + 3) ∷ [])
    ∙ tab_part (i * 4) 4 bs l

-- Bytes, in fours, are those that their numbers are laid as.
pub bytes_lay_back : (bs : List ℕ) (m : ℕ) → Under 256 bs → length bs ≡ 4 * m → bytes_of (words_of bs) ≡ bs
unfolding words_of word_at
bytes_lay_back bs m small e =
    let words : length bs / 4 ≡ m = omega arith in
    rw words
    (fours (tab m (word_at bs))
    ∙ ap joined (map_tab four m (word_at bs))
    ∙ ap joined (tab_ext m (λ i. four (word_at bs i)) (λ i. take 4 (drop (i * 4) bs)) (λ i l. part_back bs small i (omega arith)))
    ∙ joined_parts 4 m bs
    ∙ take_all (m * 4) bs (omega arith))

-- Each number that numbers are laid as is a byte.
pub bytes_small : (ws : List ℕ) → Under 256 (bytes_of ws)
unfolding bytes_of
bytes_small [] i = omega arith
bytes_small (w ∷ ws) zero = omega arith
bytes_small (w ∷ ws) (suc zero) = omega arith
bytes_small (w ∷ ws) (suc (suc zero)) = omega arith
bytes_small (w ∷ ws) (suc (suc (suc zero))) = omega arith
bytes_small (w ∷ ws) (suc (suc (suc (suc i)))) = bytes_small ws i

-- Numbers that are read from bytes fit 4 bytes.
pub words_small : (bs : List ℕ) → Under 256 bs → Under (2 ^ 32) (words_of bs)
unfolding words_of word_at
words_small bs small =
    under_tab (2 ^ 32) (length bs / 4) (word_at bs) (omega arith)
    (λ i l. omega (arith, small (4 * i), small (4 * i + 1), small (4 * i + 2), small (4 * i + 3)))
