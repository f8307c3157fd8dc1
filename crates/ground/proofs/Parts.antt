-- The part of a slice from a place to its end, as it is lent to a call and given back.
use Prim.Native.Nat.{ℕ, ◌-◌}
use native.Mathlib.Omega.{arith}
use mathlib.Core.List.{List, [], ◌++◌, append-nil}
use mathlib.Core.Path.{◌≡◌, ap, ◌∙◌}
use borrow.Rule.Slice.PartMut.{put_mid}
use lib.ListN.{length, take, drop, length-drop, drop_of_length-le}
use lib.Seq.{take_all}

module _ (xs : List ℕ) (a : ℕ) where
  -- What is lent.
  pub to_end : take (length xs - a) (drop a xs) ≡ drop a xs
  to_end = take_all (length xs - a) (drop a xs) (simp length-drop (omega arith))

  -- What the slice holds once the part holds ys.
  pub put_to_end : (ys : List ℕ) → put_mid a (length xs - a) xs ys ≡ take a xs ++ ys
  put_to_end ys = ap (λ (rest : List ℕ). take a xs ++ (ys ++ rest)) none ∙ ap (λ (l : List ℕ). take a xs ++ l) (append-nil ys)
    where
      none : drop (length xs - a) (drop a xs) ≡ []
      none = drop_of_length-le (drop a xs) {i = length xs - a} (simp length-drop (omega arith))
