-- Successors joined by commas, one by one as the code puts them.
use Prim.Native.Nat.{ℕ, zero, suc, ◌+◌, ◌-◌, ◌<◌}
use native.Mathlib.Nat.{lt-suc_self}
use native.Mathlib.Numerals.{add-one}
use native.Mathlib.Omega.{arith}
use mathlib.Core.Bool.{Bool, true, false, not, ◌||◌}
use mathlib.Core.List.{List, [], ◌∷◌, ◌++◌, append-nil, append_assoc}
use mathlib.Core.Path.{◌≡◌, refl, sym, ap₂}
use borrow.Author.Tests.{eqb-true, ne_eqb, not-true, not-false}
use lib.Dec.{eqb}
use lib.ListN.{length, length-append}
use Rattle.ground.specs.Bytes.{comma, hyphen}
use Rattle.std.specs.Prelude.{if◌then◌else◌}
use Rattle.texts.specs.Printed.{joined_to, successors_text, is_some, member_text}
use Rattle.texts.specs.Texts.{decimal_room, decimal_of}
use Rattle.texts.proofs.Digits.{digits_count}

module _ (k : ℕ) (p : ℕ → Bool) (some : Bool) (tells : some ≡ is_some (joined_to k p)) where
  -- One unit more.
  pub joined_more : joined_to k p ++ member_text some k (p k) ≡ joined_to (k + 1) p
  unfolding joined_to
  joined_more = rw (tells, add-one) (go (eqb (length (joined_to k p)) 0) (p k))
    where
      go : (none member : Bool)
          → joined_to k p ++ member_text (not none) k member
          ≡ (if member then joined_to k p ++ (if none then [] else comma ∷ []) ++ decimal_of k else joined_to k p)
      go none false = append-nil (joined_to k p)
      go true true = sym (append_assoc (joined_to k p) [] (decimal_of k))
      go false true = sym (append_assoc (joined_to k p) (comma ∷ []) (decimal_of k))

  -- Whether there are any then.
  pub some_more : (p k || some) ≡ is_some (joined_to (k + 1) p)
  unfolding joined_to
  some_more = rw (tells, add-one) (go (p k))
    where
      before : List ℕ
      before = joined_to k p

      go : (member : Bool)
          → (member || is_some before)
          ≡ is_some (if member then before ++ (if eqb (length before) 0 then [] else comma ∷ []) ++ decimal_of k else before)
      go false = refl
      go true =
          let between = if eqb (length before) 0 then [] else comma ∷ [] in
          let many = length-append (before ++ between) (decimal_of k) in
          rw (ne_eqb (length (before ++ between ++ decimal_of k)) 0 (λ e. omega (arith, many, digits_count (decimal_room - 1) k)))

-- Tests that agree below n print the same.
pub joined_ext : (n : ℕ) (p q : ℕ → Bool) → ((k : ℕ) → k < n → p k ≡ q k) → joined_to n p ≡ joined_to n q
unfolding joined_to
joined_ext zero p q h = refl
joined_ext (suc k) p q h =
    ap₂ (λ (before : List ℕ) (t : Bool).
    if t then before ++ (if eqb (length before) 0 then [] else comma ∷ []) ++ decimal_of k else before)
    (joined_ext k p q (λ i l. h i (omega arith)))
    (h k (lt-suc_self k))

-- What is put of them where there are any, and the hyphen where there are none.
pub some_joined : (n : ℕ) (p : ℕ → Bool) → is_some (joined_to n p) ≡ true → joined_to n p ≡ successors_text n p
some_joined n p e = rw (not-true (eqb (length (joined_to n p)) 0) e)

pub hyphen_for_none : (n : ℕ) (p : ℕ → Bool) → is_some (joined_to n p) ≡ false
    → joined_to n p ++ (hyphen ∷ []) ≡ successors_text n p
hyphen_for_none n p e = go (joined_to n p) e
  where
    go : (text : List ℕ) → is_some text ≡ false → text ++ (hyphen ∷ []) ≡ (if eqb (length text) 0 then hyphen ∷ [] else text)
    go [] z = refl
    go (byte ∷ text) z = absurd (omega (arith, eqb-true (length (byte ∷ text)) 0 (not-false (eqb (length (byte ∷ text)) 0) z)))
