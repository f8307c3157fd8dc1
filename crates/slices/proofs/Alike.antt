-- What the library's `==` says of two slices of numbers is what `same` says.
use Prim.Native.Nat.{ℕ}
use mathlib.Core.List.{List}
use mathlib.Core.Path.{◌≡◌, refl}
use Rattle.std.proofs.lemmas.Bool.Decides.{Decides-eqb, same_from_decides}
use Rattle.std.proofs.lemmas.Slice.Eq.{slice_eq-Decides}
use Rattle.std.specs.Prelude.{nat_eq}
use Rattle.std.specs.Cmp.Lexicographic.{pointwise}
use Rattle.ground.specs.Rows.{same}
use Rattle.ground.proofs.Rows.{same_eq, eq_same}

pub alike : (xs ys : List ℕ) → pointwise nat_eq xs ys ≡ same xs ys
alike xs ys =
    same_from_decides (pointwise nat_eq xs ys) (same xs ys)
    (slice_eq-Decides Decides-eqb xs ys (pointwise nat_eq xs ys) refl)
    (same_eq xs ys, eq_same xs ys)
