-- What it tells that no refusal applies: none of the conditions holds. A bound of refusals. And refusals in a row.
use Prim.Native.Nat.{ℕ, suc, ◌<◌}
use native.Mathlib.Omega.{arith}
use mathlib.Core.Bool.{Bool, true, false}
use mathlib.Core.Logic.{◌≢◌}
use mathlib.Core.Path.{◌≡◌, refl, sym, ap, ◌∙◌}
use borrow.Author.Tests.{eq-eqb, ne_eqb, eqb-true, eqb-false}
use lib.Dec.{eqb}
use Rattle.ground.specs.Refusal.{accepted, ◌gives◌, ◌otherwise◌}
use Rattle.ground.proofs.Choices.{by_choice}
use Rattle.ground.proofs.Tests.{if_true, if_false}

-- A condition that gives no number does not hold.
pub gives_none : (test : Bool) (k : ℕ) → (test gives suc k) ≡ accepted → test ≡ false
gives_none true k e = absurd (omega arith)
gives_none false k e = refl

-- Where neither of two applies, the first does not, and the rest does not.
pub otherwise_none : (refusal rest : ℕ) → (refusal otherwise rest) ≡ accepted → (refusal ≡ accepted) × (rest ≡ accepted)
otherwise_none refusal rest e = go (eqb refusal accepted) refl
  where
    go : (t : Bool) → eqb refusal accepted ≡ t → (refusal ≡ accepted) × (rest ≡ accepted)
    go true h = (eqb-true _ _ h, rw h at e)
    go false h = absurd (eqb-false _ _ h (rw h at e))

-- A condition gives a number below b, or none.
pub gives_below : {b : ℕ} (test : Bool) (number : ℕ) → number < b → (test gives number) < b
gives_below {b} test number h = by_choice (λ (refusal : ℕ). refusal < b) test number accepted (λ t. h) (λ t. omega arith)

-- Of two refusals below b the first that applies is below b.
pub otherwise_below : {b refusal rest : ℕ} → refusal < b → rest < b → (refusal otherwise rest) < b
otherwise_below {b} {refusal} {rest} h k =
    by_choice (λ (number : ℕ). number < b) (eqb refusal accepted) rest refusal (λ t. k) (λ t. h)

-- Of two refusals in a row the first counts where it is one, and else the second.
pub first_counts : (a rest : ℕ) → a ≢ accepted → (a otherwise rest) ≡ a
first_counts a rest d = if_false (eqb a accepted) rest a (ne_eqb a accepted d)

pub rest_counts : (a rest : ℕ) → a ≡ accepted → (a otherwise rest) ≡ rest
rest_counts a rest e = if_true (eqb a accepted) rest a (eq-eqb a accepted e)

-- Three in a row, grouped either way.
pub in_a_row : (a b c : ℕ) → (a otherwise (b otherwise c)) ≡ ((a otherwise b) otherwise c)
in_a_row a b c = go (eqb a accepted) refl
  where
    go : (t : Bool) → eqb a accepted ≡ t → (a otherwise (b otherwise c)) ≡ ((a otherwise b) otherwise c)
    go true e = rest_counts a _ (eqb-true a accepted e) ∙ sym (ap (λ (x : ℕ). x otherwise c) (rest_counts a b (eqb-true a accepted e)))
    go false e =
        let d : a ≢ accepted = eqb-false a accepted e in
        first_counts a _ d ∙ sym (ap (λ (x : ℕ). x otherwise c) (first_counts a b d) ∙ first_counts a c d)
