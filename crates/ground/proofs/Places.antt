-- Places of lists that are filled up with zeros or laid one after the other in blocks, and rows that are filled up.
use Prim.Native.Nat.{ℕ, zero, suc, ◌+◌, ◌-◌, ◌*◌, ◌≤◌, ◌<◌}
use native.Mathlib.Omega.{arith}
use mathlib.Core.List.{List, [], ◌∷◌, ◌++◌, map, append_assoc}
use mathlib.Core.Path.{◌≡◌, refl, sym, ap, ◌∙◌}
use lib.ListN.{length, get_or, set, take, replicate, length-append, length-map, get_or-append}
use lib.Seq.{set-get_or, take_all, take-paste, paste}
use Rattle.ground.specs.Rows.{at, tab, zeros, filled, filled_rows, joined}
use Rattle.ground.proofs.Filled.{filled_tab}
use Rattle.ground.proofs.Lists.{at_zeros, at_from, filled_past, map_at, Blocks, block_first}
use Rattle.ground.proofs.Rows.{length_tab}

-- Filling a list up changes none of its places, nor what is past its end.
pub at_filled : (m : ℕ) (xs : List ℕ) (i : ℕ) → at (filled m xs) i ≡ at xs i
at_filled m xs i = more xs (m - length xs) i
  where
    more : (ys : List ℕ) (k j : ℕ) → at (ys ++ zeros k) j ≡ at ys j
    more [] k j = at_zeros k j
    more (y ∷ ys) k zero = refl
    more (y ∷ ys) k (suc j) = more ys k j

-- One turn of a loop that fills an array, where the next number is 0 and nothing is stored.
pub filled_kept : (m i : ℕ) (f : ℕ → ℕ) → i < m → f i ≡ 0 → filled m (tab i f) ≡ filled m (tab (i + 1) f)
filled_kept m i f h e =
    let past : at (filled m (tab i f)) i ≡ f i = filled_past m (tab i f) i (omega (arith, length_tab i f)) ∙ sym e in
    sym (set-get_or (filled m (tab i f)) i 0)
    ∙ ap (set (filled m (tab i f)) i) past
    ∙ filled_tab m i f h

-- A list in front of one that is filled up.
pub filled_behind : (k m : ℕ) (xs ys : List ℕ) → length xs ≡ k → filled (k + m) (xs ++ ys) ≡ xs ++ filled m ys
filled_behind k m xs ys e =
    let left : k + m - length (xs ++ ys) ≡ m - length ys = omega (arith, length-append xs ys) in
    rw left (append_assoc xs ys (zeros (m - length ys)))

-- Place r of block k.
pub block_at : (w : ℕ) (bs : List (List ℕ)) (rest : List ℕ) → Blocks w bs → (k r : ℕ) → k < length bs → r < w
    → at (joined bs ++ rest) (k * w + r) ≡ at (get_or bs k []) r
block_at w bs rest h k r l s =
    at_from (k * w) (joined bs ++ rest) _ (block_first w bs rest h k l) r (k * w + r) refl
    ∙ get_or-append (get_or bs k []) _ 0 r (omega (arith, h k l))

-- A row of rows that are filled up.
pub filled_row : (m : ℕ) (rows : List (List ℕ)) (k : ℕ) → k < length rows
    → get_or (filled_rows m rows) k [] ≡ filled m (get_or rows k [])
filled_row m rows k h =
    get_or-append (map (filled m) rows) (replicate (m - length rows) (zeros m)) [] k
    (rw (length-map rows (filled m)) h)
    ∙ map_at (filled m) rows k [] [] h

-- What a table begins with once a list is laid into it behind what it began with.
pub take_laid : (d : List ℕ) (k n : ℕ) (s xs : List ℕ) → k ≤ length d → length s ≡ n → take k d ≡ xs
    → take (k + n) (paste d k s n) ≡ xs ++ s
take_laid d k n s xs h l e =
    take-paste d k s n h (omega arith)
    ∙ ap (λ (ys : List ℕ). ys ++ take n s) e
    ∙ ap (λ (ys : List ℕ). xs ++ ys) (take_all n s (omega arith))
