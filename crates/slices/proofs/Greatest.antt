-- The greatest of a number and of those that a loop has still to look at, one at a turn.
use Prim.Native.Nat.{ℕ, ◌+◌, ◌≤◌, ◌<◌}
use native.Mathlib.Numerals.{add-one}
use mathlib.Core.List.{List}
use mathlib.Core.Path.{◌≡◌, sym, ap, ◌∙◌}
use lib.ListN.{length, drop, get_or, drop_of_length-le}
use lib.Seq.{drop-cons}
use Rattle.std.specs.Ordering.{ord_max}
use Rattle.std.specs.declared.cmp.Ordering.{Ordering}
use Rattle.slices.specs.Slices.{greatest_of}

module _ {A : Type 0} (cmp : A → A → Ordering) (xs : List A) (i : ℕ) (most : A) {all : A} where
  -- One more is looked at.
  pub greatest_more : {item more : A} → i < length xs → item ≡ get_or xs i item → more ≡ ord_max cmp most item
      → greatest_of cmp most (drop i xs) ≡ all → greatest_of cmp more (drop (i + 1) xs) ≡ all
  greatest_more {item} {more} h is grown e =
      ap (λ (m : A). greatest_of cmp m (drop (i + 1) xs)) grown
      ∙ ap (λ (x : A). greatest_of cmp (ord_max cmp most x) (drop (i + 1) xs)) is
      ∙ ap (λ (k : ℕ). greatest_of cmp (ord_max cmp most (get_or xs i item)) (drop k xs)) (add-one i)
      ∙ sym (ap (greatest_of cmp most) (drop-cons xs i item h))
      ∙ e

  -- In the end none is left.
  pub greatest_all : length xs ≤ i → greatest_of cmp most (drop i xs) ≡ all → most ≡ all
  greatest_all h e = sym (ap (greatest_of cmp most) (drop_of_length-le xs h)) ∙ e
