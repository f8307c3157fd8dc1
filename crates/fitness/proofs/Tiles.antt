-- Parts of one width laid one after the other, and nothing after them: a list is made of its parts, and each part is found
-- again in the list that is made of them.
use Prim.Native.Nat.{ℕ, zero, suc, ◌+◌, ◌-◌, ◌*◌, ◌≤◌, ◌<◌}
use native.Mathlib.Omega.{arith}
use mathlib.Core.Bool.{true}
use mathlib.Core.List.{List, [], ◌∷◌, ◌++◌}
use mathlib.Core.Logic.{⊎_elim}
use mathlib.Core.Path.{◌≡◌, sym, ap, ◌∙◌}
use lib.ListN.{length, take, drop, length-take, length-drop, length-replicate, take-append-drop, get_or-eq_default}
use lib.Seq.{get_or-take, get_or-drop, take-nil, take-take, drop-drop, drop_at}
use Rattle.ground.specs.Rows.{tab, zeros, joined, filled}
use Rattle.ground.proofs.Lists.{Under, blocks_tab, length_joined, block, joined_parts}
use Rattle.ground.proofs.Rows.{length_tab, tab_at, tab_ext, same_eq, eq_same}
use Rattle.ground.proofs.Tests.{less_or_not}
use Rattle.rules.specs.Tables.{part}
use Rattle.slices.specs.Slices.{is_nothing}

-- Without its first i numbers, the first n numbers of a list are a part of it.
drop_take : (i n : ℕ) (xs : List ℕ) → drop i (take n xs) ≡ take (n - i) (drop i xs)
drop_take zero n xs = let e : n - 0 ≡ n = omega arith in rw e
drop_take (suc i) zero xs = let e : 0 - suc i ≡ 0 = omega arith in rw e
drop_take (suc i) (suc n) [] = sym (take-nil (suc n - suc i))
drop_take (suc i) (suc n) (x ∷ xs) =
    let e : suc n - suc i ≡ n - i = omega arith in
    rw e (drop_take i n xs)

module _ (xs : List ℕ) (from n i : ℕ) where
  -- What a part of a list holds after its first i numbers.
  pub part_rest : drop i (part xs from n) ≡ part xs (from + i) (n - i)
  part_rest = drop_take i n (drop from xs) ∙ ap (take (n - i)) (drop-drop i from xs)

  -- A part of a part.
  pub part_part : (k : ℕ) → i + k ≤ n → part (part xs from n) i k ≡ part xs (from + i) k
  part_part k h = ap (take k) part_rest ∙ take-take k (n - i) (drop (from + i) xs) (omega arith)

-- A row of nothing passes the test.
pub zeros_nothing : (k : ℕ) → is_nothing (zeros k) ≡ true
zeros_nothing k = eq_same (zeros k) (zeros (length (zeros k))) (ap zeros (sym (length-replicate k 0)))

-- A list that holds nothing after its first k numbers is these, filled up.
pub fills : (m k : ℕ) (xs : List ℕ) → length xs ≡ m → is_nothing (drop k xs) ≡ true → filled m (take k xs) ≡ xs
fills m k xs long nothing =
    let left : m - length (take k xs) ≡ length (drop k xs) = omega (arith, length-take k xs, length-drop k xs) in
    ap (λ (ys : List ℕ). take k xs ++ ys) (ap zeros left ∙ sym (same_eq (drop k xs) (zeros (length (drop k xs))) nothing))
    ∙ take-append-drop k xs

-- A part of a list of numbers below b.
pub under_part : (b : ℕ) (xs : List ℕ) (from n : ℕ) → Under b xs → Under b (part xs from n)
under_part b xs from n small i =
    ⊎_elim
    (λ l. omega (arith, get_or-take n (drop from xs) i 0 l, get_or-drop from xs i 0, small (from + i)))
    (λ l. omega (
      arith,
      get_or-eq_default (take n (drop from xs)) 0 {n = i} (omega (arith, length-take n (drop from xs))),
      small 0,
    ))
    (less_or_not i n)

module _ (w n m : ℕ) (f : ℕ → List ℕ) where
  -- A list with f i as its part i, for each i below n, and nothing after is made of them.
  pub tiled : (xs : List ℕ) → length xs ≡ m → ((i : ℕ) → i < n → f i ≡ part xs (i * w) w)
      → is_nothing (drop (n * w) xs) ≡ true → filled m (joined (tab n f)) ≡ xs
  tiled xs long each rest =
      ap (λ (ys : List (List ℕ)). filled m (joined ys)) (tab_ext n f (λ i. part xs (i * w) w) each)
      ∙ ap (filled m) (joined_parts w n xs)
      ∙ fills m (n * w) xs long rest

  module _ (wide : (i : ℕ) → i < n → length (f i) ≡ w) where
    -- Part i of the list that is made of them is f i.
    pub tile : (i : ℕ) → i < n → part (filled m (joined (tab n f))) (i * w) w ≡ f i
    tile i l = block w (tab n f) _ (blocks_tab w n f wide) i (rw length_tab l) ∙ tab_at n f i [] l

    -- After them it holds nothing.
    pub after_tiles : is_nothing (drop (n * w) (filled m (joined (tab n f)))) ≡ true
    after_tiles =
        let long : length (joined (tab n f)) ≡ n * w =
        length_joined w (tab n f) (blocks_tab w n f wide) ∙ ap (λ (k : ℕ). k * w) (length_tab n f) in
        let left = m - length (joined (tab n f)) in
        ap is_nothing (drop_at (joined (tab n f)) (zeros left) (n * w) long) ∙ zeros_nothing left
