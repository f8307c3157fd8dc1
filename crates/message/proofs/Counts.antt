-- What the test of the count tells.
use Prim.Native.Nat.{ℕ}
use mathlib.Core.Bool.{Bool, true, false, not}
use mathlib.Core.Path.{◌≡◌, refl, sym}
use borrow.Author.Tests.{not-false}
use Rattle.ground.specs.Limits.{legal_count}
use Rattle.ground.specs.Refusal.{accepted, ◌gives◌}
use Rattle.ground.specs.Refused.{number_of}
use Rattle.ground.specs.declared.refusals.Refusal.{Refusal}
use Rattle.ground.proofs.Answers.{number_some}
use Rattle.ground.proofs.Refusal.{gives_none}

pub count_known : (n : ℕ) → accepted ≡ (not (legal_count n) gives 1) → legal_count n ≡ true
count_known n e = not-false (legal_count n) (gives_none (not (legal_count n)) 0 (sym e))

pub count_refused : (n : ℕ) (refusal : Refusal) → number_of refusal ≡ (not (legal_count n) gives 1) → legal_count n ≡ false
count_refused n refusal e = go (legal_count n) refl
  where
    go : (t : Bool) → legal_count n ≡ t → legal_count n ≡ false
    go true h = absurd (number_some refusal (rw h at e))
    go false h = h
