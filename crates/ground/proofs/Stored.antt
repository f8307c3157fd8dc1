-- Storing into lists: a number into a list that is filled up with zeros, and a block over another of a list of blocks.
use Prim.Native.Nat.{ℕ, zero, suc, ◌+◌, ◌-◌, ◌*◌, ◌≤◌, ◌<◌, suc-le-suc}
use native.Mathlib.Nat.{not-suc-le-zero, le_of_suc-le-suc, zero-mul, suc-mul}
use native.Mathlib.Omega.{arith}
use mathlib.Core.List.{List, [], ◌∷◌, ◌++◌, map, append_assoc, append-nil}
use mathlib.Core.Logic.{⊎_elim}
use mathlib.Core.Path.{◌≡◌, refl, sym, ap, ◌∙◌}
use lib.ListN.{length, get_or, set, take, length-set}
use lib.Seq.{set-append_left, set_split, get_or-set_same, get_or-set_other, take-append-add, take_all, paste}
use Rattle.ground.specs.Rows.{zeros, filled, joined}
use Rattle.ground.proofs.Lists.{Blocks, length_joined, drop_blocks, joined_append}
use Rattle.ground.proofs.Tests.{equal_or_not}

-- A list that has all its places is filled up.
pub filled_full : (m : ℕ) (xs : List ℕ) → length xs ≡ m → filled m xs ≡ xs
filled_full m xs e =
    let none : m - length xs ≡ 0 = omega arith in
    rw none (append-nil xs)

-- Storing into a list and filling it up, in either order.
pub set_filled : (m : ℕ) (xs : List ℕ) (k v : ℕ) → k < length xs → set (filled m xs) k v ≡ filled m (set xs k v)
set_filled m xs k v h = rw length-set (set-append_left xs (zeros (m - length xs)) k v h)

-- Storing into a list and taking images, in either order.
pub map_set {ℓ κ} : {A : Type ℓ} {B : Type κ} (f : A → B) (xs : List A) (k : ℕ) (x : A) → map f (set xs k x) ≡ set (map f xs) k (f x)
map_set f [] k x = refl
map_set f (y ∷ xs) zero x = refl
map_set {B = B} f (y ∷ xs) (suc k) x = ap (λ (ys : List B). f y ∷ ys) (map_set f xs k x)

-- The numbers before block i are those of the blocks before it.
pub take_blocks : (w : ℕ) (bs : List (List ℕ)) (rest : List ℕ) → Blocks w bs → (i : ℕ) → i ≤ length bs
    → take (i * w) (joined bs ++ rest) ≡ joined (take i bs)
take_blocks w bs rest h zero l = rw zero-mul
take_blocks w [] rest h (suc i) l = absurd (not-suc-le-zero l)
take_blocks w (b ∷ bs) rest h (suc i) l =
    let e : suc i * w ≡ length b + i * w = omega (arith, suc-mul i w, h zero (omega arith)) in
    rw (e, append_assoc, take-append-add)
    (ap (λ (xs : List ℕ). b ++ xs) (take_blocks w bs rest (λ j k. h (suc j) (suc-le-suc k)) i (le_of_suc-le-suc l)))

module _ (w : ℕ) (bs : List (List ℕ)) (h : Blocks w bs) (k : ℕ) (l : k < length bs) (b : List ℕ) (e : length b ≡ w) where
  -- Blocks of which one is replaced are blocks.
  pub set_blocks : Blocks w (set bs k b)
  set_blocks i s =
      ⊎_elim
      (λ q. ap (λ (j : ℕ). length (get_or (set bs k b) j [])) q ∙ ap length (get_or-set_same bs k b [] l) ∙ e)
      (λ d. ap length (get_or-set_other bs k i b [] d) ∙ h i (rw (length-set bs k b) at s))
      (equal_or_not i k)

  -- A block laid over block k replaces it.
  pub block_stored : (rest : List ℕ) → paste (joined bs ++ rest) (k * w) b w ≡ joined (set bs k b) ++ rest
  block_stored rest =
      let next : k * w + w ≡ suc k * w = omega (arith, suc-mul k w) in
      rw (
        next,
        take_blocks w bs rest h k (omega arith),
        take_all w b (omega arith),
        drop_blocks w bs rest h (suc k) l,
        set_split bs k b l,
        joined_append,
      )
      (simp append_assoc)

  -- The same where zeros fill up what the blocks leave free.
  pub block_filled : (m : ℕ) → paste (filled m (joined bs)) (k * w) b w ≡ filled m (joined (set bs k b))
  block_filled m =
      let same : length (joined bs) ≡ length (joined (set bs k b)) =
      length_joined w bs h
      ∙ ap (λ (n : ℕ). n * w) (sym (length-set bs k b))
      ∙ sym (length_joined w (set bs k b) set_blocks) in
      block_stored (zeros (m - length (joined bs))) ∙ ap (λ (n : ℕ). joined (set bs k b) ++ zeros (m - n)) same
