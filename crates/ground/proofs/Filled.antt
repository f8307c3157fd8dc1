-- Laws of a list filled up with zeros to a number of places, as a local array holds it while a loop fills it.
use Prim.Native.Nat.{ℕ, suc, ◌+◌, ◌-◌, ◌≤◌, ◌<◌}
use native.Mathlib.Numerals.{add-one}
use native.Mathlib.Omega.{arith}
use mathlib.Core.List.{List, [], ◌∷◌, ◌++◌}
use mathlib.Core.Path.{◌≡◌, sym, ap, ◌∙◌}
use lib.ListN.{length, set, take, length-append, length-replicate}
use lib.Seq.{append_snoc, set-append_seam, take_at}
use Rattle.ground.specs.Rows.{tab, zeros, filled}
use Rattle.ground.proofs.Rows.{length_tab}

-- It has that number of places.
pub length_filled : (m : ℕ) (xs : List ℕ) → length xs ≤ m → length (filled m xs) ≡ m
length_filled m xs h = simp (length-append, length-replicate) (omega arith)

-- Filling one place more: the next number is stored after the last.
pub filled_more : (m : ℕ) (xs : List ℕ) (i v : ℕ) → length xs ≡ i → i < m → set (filled m xs) i v ≡ filled m (xs ++ (v ∷ []))
filled_more m xs i v e h =
    rw (← e)
    (rw left
    (set-append_seam xs 0 (zeros (m - suc (length xs))) v
    ∙ sym (rw (append_snoc, length-append) (ap (λ (k : ℕ). xs ++ v ∷ zeros k) rest))))
  where
    left : m - length xs ≡ suc (m - suc (length xs))
    left = omega arith

    rest : m - (length xs + 1) ≡ m - suc (length xs)
    rest = omega arith

-- One turn of a loop that fills an array with f 0, f 1, ..
pub filled_tab : (m i : ℕ) (f : ℕ → ℕ) → i < m → set (filled m (tab i f)) i (f i) ≡ filled m (tab (i + 1) f)
filled_tab m i f h = rw add-one (filled_more m (tab i f) i (f i) (length_tab i f) h)

-- The part that is filled.
pub take_filled : (m : ℕ) (xs : List ℕ) (i : ℕ) → length xs ≡ i → take i (filled m xs) ≡ xs
take_filled m xs i e = take_at xs _ i e
