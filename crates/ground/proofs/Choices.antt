-- A choice by a test has what both of its branches have.
use mathlib.Core.Bool.{Bool, cond, true, false}
use mathlib.Core.Path.{◌≡◌, refl}

pub by_choice {ℓ κ} : {A : Type ℓ} (P : A → Type κ) (t : Bool) (a b : A) → (t ≡ true → P a) → (t ≡ false → P b)
    → P (cond t a b)
by_choice P true a b p q = p refl
by_choice P false a b p q = q refl
