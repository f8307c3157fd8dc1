-- Answers of distances and their numbers: within the longest distance, or unreachable, no two have one number.
use Prim.Native.Nat.{ℕ, ◌+◌, ◌≤◌}
use native.Mathlib.Omega.{arith}
use mathlib.Core.Logic.{◌⊎◌, ⊎_elim}
use mathlib.Core.Path.{◌≡◌, sym, ap, ◌∙◌}
use borrow.Author.Tests.{eq-eqb, ne_eqb}
use Rattle.std.specs.Prelude.{Result, Ok, Err, IfOk}
use Rattle.ground.specs.Limits.{far, longest}
use Rattle.ground.specs.Refusal.{answer_base}
use Rattle.ground.specs.Refused.{reached_of}
use Rattle.ground.specs.declared.refusals.Refusal.{Refusal}
use Rattle.ground.proofs.Answers.{number_once, number_below}

-- The number of a distance that is reached, and of one that is not.
reached_far : (value : ℕ) → value ≡ far → reached_of (Ok value) ≡ far
reached_far value e = rw (eq-eqb value far e)

pub reached_near : (value : ℕ) → value ≤ longest → reached_of (Ok value) ≡ answer_base + value
reached_near value h = rw (ne_eqb value far (λ e. omega arith))

-- Both are above the numbers of refusals.
reached_high : (value : ℕ) → (value ≤ longest) ⊎ (value ≡ far) → answer_base ≤ reached_of (Ok value)
reached_high value = ⊎_elim (λ h. omega (arith, reached_near value h)) (λ e. omega (arith, reached_far value e))

distance_once : (a b : ℕ) → (a ≤ longest) ⊎ (a ≡ far) → (b ≤ longest) ⊎ (b ≡ far)
    → reached_of (Ok a) ≡ reached_of (Ok b) → a ≡ b
distance_once a b p q e =
    ⊎_elim
    (λ h.
    ⊎_elim
    (λ k. omega (arith, reached_near a h, reached_near b k))
    (λ k. absurd (omega (arith, reached_near a h, reached_far b k)))
    q)
    (λ h.
    ⊎_elim
    (λ k. absurd (omega (arith, reached_far a h, reached_near b k)))
    (λ k. h ∙ sym k)
    q)
    p

-- No two such answers have one number.
pub reached_once : (a b : Result ℕ Refusal)
    → IfOk a (λ value. (value ≤ longest) ⊎ (value ≡ far)) → IfOk b (λ value. (value ≤ longest) ⊎ (value ≡ far))
    → reached_of a ≡ reached_of b → a ≡ b
reached_once (Ok a) (Ok b) p q e = ap Ok (distance_once a b p q e)
reached_once (Ok a) (Err b) p q e = absurd (omega (arith, number_below b, reached_high a p))
reached_once (Err a) (Ok b) p q e = absurd (omega (arith, number_below a, reached_high b q))
reached_once (Err a) (Err b) p q e = ap Err (number_once a b e)
