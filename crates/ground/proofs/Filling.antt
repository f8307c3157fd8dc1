-- One turn of a loop that fills a local array place by place, of numbers or of rows; and what a filled array holds.
use Prim.Native.Nat.{ℕ, zero, suc, ◌+◌, ◌-◌, ◌≤◌, ◌<◌}
use native.Mathlib.Numerals.{add-one}
use native.Mathlib.Omega.{arith}
use mathlib.Core.List.{List, [], ◌∷◌, ◌++◌, map, map-append}
use mathlib.Core.Logic.{⊎_elim}
use mathlib.Core.Path.{◌≡◌, refl, sym, ap, ◌∙◌}
use lib.ListN.{length, get_or, set, replicate, length-map, get_or-eq_default}
use lib.Seq.{append_snoc, set_at, get_or-append-add}
use Rattle.ground.specs.Rows.{at, tab, zeros, filled, filled_rows}
use Rattle.ground.proofs.Filled.{filled_tab}
use Rattle.ground.proofs.Lists.{at_zeros}
use Rattle.ground.proofs.Places.{at_filled, filled_row}
use Rattle.ground.proofs.Rows.{length_tab, tab_at}
use Rattle.ground.proofs.Tests.{less_or_not}

-- The next number is stored after those that are there.
pub filling : (m i : ℕ) (f : ℕ → ℕ) {xs : List ℕ} {v : ℕ} → xs ≡ filled m (tab i f) → v ≡ f i → i < m
    → set xs i v ≡ filled m (tab (i + 1) f)
filling m i f e q h = rw (e, q) (filled_tab m i f h)

-- After the last turn the array holds them all.
pub filled_all : (m i n : ℕ) (f : ℕ → ℕ) {xs : List ℕ} → xs ≡ filled m (tab i f) → i ≡ n → xs ≡ filled m (tab n f)
filled_all m i n f e q = e ∙ ap (λ (k : ℕ). filled m (tab k f)) q

-- The next row is stored after those that are there.
pub filling_rows : (m i : ℕ) (f : ℕ → List ℕ) {xs : List (List ℕ)} {v : List ℕ}
    → xs ≡ filled_rows m (tab i f) → v ≡ filled m (f i) → i < m → set xs i v ≡ filled_rows m (tab (i + 1) f)
filling_rows m i f e q h =
    rw (e, q, add-one) (ap (λ (k : ℕ). set (front ++ replicate k (zeros m)) i (filled m (f i))) left ∙ stored ∙ sym more)
  where
    front : List (List ℕ)
    front = map (filled m) (tab i f)

    left : m - length (tab i f) ≡ suc (m - suc i)
    left = omega (arith, length_tab i f)

    stored : set (front ++ zeros m ∷ replicate (m - suc i) (zeros m)) i (filled m (f i))
        ≡ front ++ filled m (f i) ∷ replicate (m - suc i) (zeros m)
    stored =
        set_at front (zeros m) (replicate (m - suc i) (zeros m)) (filled m (f i)) i
        (length-map (tab i f) (filled m) ∙ length_tab i f)

    more : filled_rows m (tab (suc i) f) ≡ front ++ filled m (f i) ∷ replicate (m - suc i) (zeros m)
    more =
        ap (λ (k : ℕ). map (filled m) (tab (suc i) f) ++ replicate (m - k) (zeros m)) (length_tab (suc i) f)
        ∙ ap (λ (l : List (List ℕ)). l ++ replicate (m - suc i) (zeros m)) (map-append (filled m) (tab i f) (f i ∷ []))
        ∙ append_snoc front (filled m (f i)) (replicate (m - suc i) (zeros m))

-- After the last turn the array holds them all.
pub filled_all_rows : (m i n : ℕ) (f : ℕ → List ℕ) {xs : List (List ℕ)} → xs ≡ filled_rows m (tab i f) → i ≡ n
    → xs ≡ filled_rows m (tab n f)
filled_all_rows m i n f e q = e ∙ ap (λ (k : ℕ). filled_rows m (tab k f)) q

-- A filled row made from a function.
pub filled_tab_at : (m n : ℕ) (f : ℕ → ℕ) (i : ℕ) → i < n → at (filled m (tab n f)) i ≡ f i
filled_tab_at m n f i h = at_filled m (tab n f) i ∙ tab_at n f i 0 h

-- A row of nothing out of a table of them.
zero_row : (k m i j : ℕ) → at (get_or (replicate k (zeros m)) i []) j ≡ 0
zero_row zero m i j = refl
zero_row (suc k) m zero j = at_zeros m j
zero_row (suc k) m (suc i) j = zero_row k m i j

-- A filled table reads like the table at every place: past its end there is 0 either way.
pub filled_rows_same : (m : ℕ) (rows : List (List ℕ)) (i j : ℕ)
    → at (get_or (filled_rows m rows) i []) j ≡ at (get_or rows i []) j
filled_rows_same m rows i j =
    ⊎_elim
    (λ h. ap (λ (row : List ℕ). at row j) (filled_row m rows i h) ∙ at_filled m (get_or rows i []) j)
    past
    (less_or_not i (length rows))
  where
    past : length rows ≤ i → at (get_or (filled_rows m rows) i []) j ≡ at (get_or rows i []) j
    past h =
        let n : ℕ = length (map (filled m) rows) in
        let e : n + (i - n) ≡ i = omega (arith, length-map rows (filled m)) in
        ap (λ (k : ℕ). at (get_or (filled_rows m rows) k []) j) (sym e)
        ∙ ap (λ (row : List ℕ). at row j)
        (get_or-append-add (map (filled m) rows) (replicate (m - length rows) (zeros m)) (i - n) [])
        ∙ zero_row (m - length rows) m (i - n) j
        ∙ ap (λ (row : List ℕ). at row j) (sym (get_or-eq_default rows [] {n = i} h))
