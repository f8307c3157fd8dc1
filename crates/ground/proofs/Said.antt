-- What is to be said, by whether something is refused.
use Prim.Native.Nat.{ℕ}
use mathlib.Core.List.{List}
use mathlib.Core.Logic.{◌≢◌}
use mathlib.Core.Path.{◌≡◌}
use borrow.Author.Tests.{eq-eqb, ne_eqb}
use lib.Dec.{eqb}
use Rattle.ground.specs.Refusal.{accepted}
use Rattle.ground.specs.Said.{accepted_with, refused_with, said}
use Rattle.ground.proofs.Tests.{if_true, if_false}

module _ (refusal : ℕ) (values : List ℕ) where
  pub said_accepted : refusal ≡ accepted → said refusal values ≡ accepted_with values
  unfolding said
  said_accepted e = if_true (eqb refusal accepted) _ _ (eq-eqb refusal accepted e)

  pub said_refused : refusal ≢ accepted → said refusal values ≡ refused_with refusal
  unfolding said
  said_refused d = if_false (eqb refusal accepted) _ _ (ne_eqb refusal accepted d)
