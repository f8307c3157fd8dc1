-- What holds of each of a list's members: by a list that is built with the proofs, or by the members' places.
use Prim.Native.Nat.{ℕ, zero, suc, ◌<◌, suc-le-suc}
use native.Mathlib.Nat.{not-suc-le-zero}
use native.Mathlib.Omega.{arith}
use mathlib.Core.List.{List, [], ◌∷◌, ◌++◌}
use lib.ListN.{length, get_or, drop}
use Rattle.ground.specs.Each.{Each, none, one}

module _ {A : Type 0} {P : A → Type 0} where
  -- What holds of each member of a list holds of its first.
  pub each_first : {x : A} {xs : List A} → Each P (x ∷ xs) → P x
  each_first (one p ps) = p

  -- And of each of the others.
  pub each_rest : {x : A} {xs : List A} → Each P (x ∷ xs) → Each P xs
  each_rest (one p ps) = ps

  -- What holds of each member of two lists holds of each of both together.
  pub each_append : {xs ys : List A} → Each P xs → Each P ys → Each P (xs ++ ys)
  each_append none q = q
  each_append (one p ps) q = one p (each_append ps q)

  -- What holds of each member holds of each of those from a place on.
  pub each_drop : (n : ℕ) {xs : List A} → Each P xs → Each P (drop n xs)
  each_drop zero q = q
  each_drop (suc n) none = none
  each_drop (suc n) (one p ps) = each_drop n ps

  -- What holds of each member holds of the member at each place.
  pub each_at : {xs : List A} → Each P xs → (i : ℕ) (d : A) → i < length xs → P (get_or xs i d)
  each_at none i d h = absurd (not-suc-le-zero h)
  each_at (one p ps) zero d h = p
  each_at (one p ps) (suc i) d h = each_at ps i d (omega arith)

  -- What holds of the member at each place holds of each member.
  pub each_of : (xs : List A) (d : A) → ((i : ℕ) → i < length xs → P (get_or xs i d)) → Each P xs
  each_of [] d h = none
  each_of (x ∷ xs) d h = one (h zero (omega arith)) (each_of xs d (λ i l. h (suc i) (suc-le-suc l)))

-- Where P holds of each member and Q follows from P, Q holds of each.
pub each_map : {A : Type 0} {P Q : A → Type 0} {xs : List A} → ((x : A) → P x → Q x) → Each P xs → Each Q xs
each_map f none = none
each_map f (one {x = x} p ps) = one (f x p) (each_map f ps)
