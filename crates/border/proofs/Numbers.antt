-- A table's numbers taken out of its bytes, and laid over them.
use Prim.Native.Nat.{ℕ, ◌+◌, ◌*◌, ◌/◌, ◌%◌, ◌≤◌, ◌<◌}
use native.Mathlib.Nat.{zero-add}
use native.Mathlib.Numerals.{add-one}
use native.Mathlib.Omega.{arith}
use mathlib.Core.List.{List, [], ◌∷◌, ◌++◌, append-nil, append_assoc}
use mathlib.Core.Path.{◌≡◌, refl, sym, ap, ◌∙◌}
use lib.ListN.{length, set, take, drop, drop_of_length-le}
use lib.Seq.{take-suc, take_all, take_at, drop_at, drop-drop, length-take-le, paste-suc}
use borrow.Rule.Slice.PartMut.{put_mid}
use Rattle.std.proofs.Common.{w32}
use Rattle.std.specs.Int.{to_be_bytes}
use Rattle.ground.specs.Rows.{at}
use Rattle.rules.specs.Tables.{bytes_of, words_of}
use Rattle.ground.proofs.Rows.{length_tab, tab_at}
use Rattle.rules.proofs.Words.{length_bytes}
use Rattle.border.specs.Numbers.{word_at}

module _ (bytes : List ℕ) where
  -- There is a number for each four bytes.
  pub length_words : (m : ℕ) → length bytes ≡ 4 * m → length (words_of bytes) ≡ m
  unfolding words_of
  length_words m e = length_tab (length bytes / 4) (λ i. word_at bytes (4 * i)) ∙ omega arith

  -- Number i is in the four bytes from 4 * i on.
  number_at : (m : ℕ) → length bytes ≡ 4 * m → (i : ℕ) → i < m → at (words_of bytes) i ≡ word_at bytes (4 * i)
  unfolding words_of
  number_at m e i l = tab_at (length bytes / 4) (λ k. word_at bytes (4 * k)) i 0 (omega arith)

  -- The numbers while i of them are taken.
  abbrev pub taken : (numbers : List ℕ) (i : ℕ) → List ℕ
  taken numbers i = take i (words_of bytes) ++ drop i numbers

  module _ (numbers : List ℕ) (long : length bytes ≡ 4 * length numbers) where
    -- One turn of the loop.
    pub taken_more : (i w : ℕ) → i < length numbers → w ≡ word_at bytes (4 * i) → set (taken numbers i) i w ≡ taken numbers (i + 1)
    taken_more i w l e =
        let many = length_words (length numbers) long in
        let same : w ≡ at (words_of bytes) i = e ∙ sym (number_at (length numbers) long i l) in
        let store = paste-suc numbers 0 (words_of bytes) i 0 (rw zero-add l) (omega (arith, many)) in
        rw (same, add-one) (simp zero-add at store)

    pub taken_all : (i : ℕ) → i ≡ length numbers → taken numbers i ≡ words_of bytes
    taken_all i e =
        let many = length_words (length numbers) long in
        let whole : take i (words_of bytes) ≡ words_of bytes = take_all i (words_of bytes) (omega (arith, many)) in
        let none : drop i numbers ≡ [] = drop_of_length-le numbers {i = i} (omega arith) in
        rw (whole, none) (append-nil (words_of bytes))

-- Two lists of numbers, one after the other.
bytes_append : (xs ys : List ℕ) → bytes_of (xs ++ ys) ≡ bytes_of xs ++ bytes_of ys
unfolding bytes_of
bytes_append [] ys = refl
bytes_append (x ∷ xs) ys =
    ap (λ rest. x / 16777216 % 256 ∷ x / 65536 % 256 ∷ x / 256 % 256 ∷ x % 256 ∷ rest) (bytes_append xs ys)

-- The bytes while i numbers are laid.
abbrev pub laid : (bytes numbers : List ℕ) (i : ℕ) → List ℕ
laid bytes numbers i = bytes_of (take i numbers) ++ drop (4 * i) bytes

module _ (bytes numbers : List ℕ) where
  pub laid_none : bytes ≡ laid bytes numbers 0
  unfolding bytes_of
  laid_none = refl

  -- The bytes of the first i numbers.
  length_first : (i : ℕ) → i ≤ length numbers → length (bytes_of (take i numbers)) ≡ 4 * i
  length_first i l = omega (arith, length_bytes (take i numbers), length-take-le i numbers l)

  module _ (long : length bytes ≡ 4 * length numbers) where
    -- One turn of the loop.
    pub laid_more : (i k : ℕ) → i < length numbers → k ≡ 4 → {four : List ℕ} → four ≡ to_be_bytes w32 (at numbers i)
        → put_mid (4 * i) k (laid bytes numbers i) four ≡ laid bytes numbers (i + 1)
    unfolding bytes_of
    laid_more i k l q e =
        let first = bytes_of (take i numbers) in
        let rest = drop (4 * i) bytes in
        let four = to_be_bytes w32 (at numbers i) in
        let long : length first ≡ 4 * i = length_first i (omega arith) in
        let next : take (i + 1) numbers ≡ take i numbers ++ (at numbers i ∷ []) = rw add-one (take-suc numbers i 0 l) in
        let end : 4 * i + 4 ≡ 4 * (i + 1) = omega arith in
        rw (e, q, take_at first rest (4 * i) long, drop_at first rest (4 * i) long)
        (ap (λ last. first ++ (four ++ last)) (drop-drop 4 (4 * i) bytes ∙ ap (λ n. drop n bytes) end)
        ∙ sym (append_assoc first four (drop (4 * (i + 1)) bytes))
        ∙ ap (λ zs. zs ++ drop (4 * (i + 1)) bytes) (sym (ap bytes_of next ∙ bytes_append (take i numbers) (at numbers i ∷ []))))

    pub laid_all : (i : ℕ) → i ≡ length numbers → laid bytes numbers i ≡ bytes_of numbers
    laid_all i e =
        let whole : take i numbers ≡ numbers = take_all i numbers (omega arith) in
        let none : drop (4 * i) bytes ≡ [] = drop_of_length-le bytes {i = 4 * i} (omega arith) in
        rw (whole, none) (append-nil (bytes_of numbers))
