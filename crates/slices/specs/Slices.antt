-- Words: numbers laid over others, numbers that are all 0, and the greatest of some numbers.
use Rattle.std.specs.Prelude.{ℕ, ◌+◌, Bool, List, [], ◌∷◌, leb, length}
use Rattle.std.proofs.Math.Seq.{paste}
use Rattle.std.specs.Ordering.{ord_max}
use Rattle.std.specs.declared.cmp.Ordering.{Ordering}
use Rattle.std.specs.Prelude.{if◌then◌else◌}
use Rattle.ground.specs.Rows.{zeros, same}

-- Laid over others from a place on. Where they do not fit there nothing changes.
unfoldable pub laid_over : {A : Type 0} → (to : List A) (place : ℕ) (from : List A) → List A
laid_over to place from =
    if leb (place + length from) (length to) then paste to place from (length from) else to

-- Numbers that are all 0.
abbrev pub is_nothing : List ℕ → Bool
is_nothing xs = same xs (zeros (length xs))

-- The greatest of a number and of some others, in an order.
abbrev pub greatest_of : {A : Type 0} → (A → A → Ordering) → A → List A → A
greatest_of cmp most [] = most
greatest_of cmp most (x ∷ xs) = greatest_of cmp (ord_max cmp most x) xs
