-- Numbers laid over others from a place on: where they fit, where they do not, and over numbers that are all 0.
use Prim.Native.Nat.{ℕ, ◌+◌, ◌-◌, ◌≤◌, ◌<◌}
use native.Mathlib.Omega.{arith}
use mathlib.Core.List.{List, [], ◌++◌, append_assoc}
use mathlib.Core.Logic.{⊎_elim}
use mathlib.Core.Path.{◌≡◌, sym, ap, ◌∙◌}
use borrow.Author.Tests.{le-leb, lt-leb}
use borrow.Rule.Slice.PartMut.{put_mid}
use lib.ListN.{length, take, drop, length-append, length-replicate, replicate-append-replicate}
use lib.Seq.{paste, length-paste, take_all, drop_at, drop-drop, drop-append-add, take-append_seam}
use Rattle.ground.specs.Rows.{zeros, filled}
use Rattle.ground.proofs.Filled.{length_filled}
use Rattle.ground.proofs.Tests.{if_true, if_false, less_or_not}
use Rattle.slices.specs.Slices.{laid_over}

module _ {A : Type 0} (to : List A) (place : ℕ) (from : List A) where
  -- They fit.
  pub laid_fits : place + length from ≤ length to → laid_over to place from ≡ paste to place from (length from)
  unfolding laid_over
  laid_fits h = if_true _ _ _ (le-leb (place + length from) (length to) h)

  -- They fit, as a copy to the part of the list that is lent for it leaves them.
  pub laid_over_part : {part : List A} → part ≡ from → place + length from ≤ length to
      → put_mid place (place + length from - place) to part ≡ laid_over to place from
  laid_over_part {part} e h =
      let many : place + length from - place ≡ length from = omega arith in
      ap (λ (n : ℕ). take place to ++ (part ++ drop n (drop place to))) many
      ∙ ap (λ (p : List A). take place to ++ (p ++ drop (length from) (drop place to))) e
      ∙ ap (λ (rest : List A). take place to ++ (from ++ rest)) (drop-drop (length from) place to)
      ∙ sym (append_assoc (take place to) from (drop (place + length from) to))
      ∙ ap (λ (p : List A). take place to ++ p ++ drop (place + length from) to) (sym (take_all (length from) from (omega arith)))
      ∙ sym (laid_fits h)

  -- They do not.
  pub laid_not : length to < place + length from → laid_over to place from ≡ to
  unfolding laid_over
  laid_not h = if_false _ _ _ (lt-leb (place + length from) (length to) h)

  -- Either way there are as many numbers as before.
  pub laid_length : length (laid_over to place from) ≡ length to
  laid_length =
      ⊎_elim
      (λ h. ap length (laid_not h))
      (λ h. ap length (laid_fits h) ∙ length-paste to place from (length from) h (omega arith))
      (less_or_not (length to) (place + length from))

-- A list that is filled up behind another may be filled up with it as well.
pub filled_inner : (m k : ℕ) (xs ys : List ℕ) → length ys ≤ k → length xs + k ≤ m
    → filled m (xs ++ filled k ys) ≡ filled m (xs ++ ys)
filled_inner m k xs ys short fits =
    let left : k - length ys + (m - length (xs ++ filled k ys)) ≡ m - length (xs ++ ys) =
    omega (arith, length-append xs (filled k ys), length_filled k ys short, length-append xs ys) in
    rw (← left, ← replicate-append-replicate) (simp append_assoc)

-- A list laid behind the numbers of a list that is filled up.
pub paste_filled : (m : ℕ) (xs ys : List ℕ) → length xs + length ys ≤ m
    → paste (filled m xs) (length xs) ys (length ys) ≡ filled m (xs ++ ys)
paste_filled m xs ys fits =
    let free : length ys + (m - length (xs ++ ys)) ≡ m - length xs = omega (arith, length-append xs ys) in
    rw (
      take-append_seam xs,
      take_all (length ys) ys (omega arith),
      drop-append-add xs,
      ← free,
      ← replicate-append-replicate (length ys),
      drop_at (zeros (length ys)) (zeros (m - length (xs ++ ys))) (length ys) (length-replicate (length ys) 0),
    )

-- A list laid over numbers that are all 0, from their start.
pub laid_zeros : (m : ℕ) (xs : List ℕ) → length xs ≤ m → laid_over (zeros m) 0 xs ≡ filled m xs
laid_zeros m xs h =
    let none : m - 0 ≡ m = omega arith in
    laid_fits (zeros m) 0 xs (omega (arith, length-replicate {A = ℕ} m 0))
    ∙ (rw none at (paste_filled m [] xs (omega arith)))
