-- A count from 2 to the limit is legal, and no other; and what is worked out for a count up to the limit, and for another.
use Prim.Native.Nat.{ℕ, ◌≤◌, ◌<◌}
use mathlib.Core.Bool.{true, false}
use mathlib.Core.List.{List, []}
use mathlib.Core.Path.{◌≡◌, ap}
use lib.Dec.{leb}
use borrow.Author.Tests.{le-leb, lt-leb}
use Rattle.ground.specs.Limits.{unit_limit, legal_count}
use Rattle.ground.specs.Rows.{filled, counted}
use Rattle.ground.proofs.Tests.{both_of, and_false, if_true, if_false}

pub count_legal : (n : ℕ) → 2 ≤ n → n ≤ unit_limit → legal_count n ≡ true
count_legal n low high = both_of (leb 2 n) (leb n unit_limit) (le-leb 2 n low) (le-leb n unit_limit high)

pub count_low : (n : ℕ) → n < 2 → legal_count n ≡ false
count_low n h = rw (lt-leb 2 n h)

pub count_high : (n : ℕ) → unit_limit < n → legal_count n ≡ false
count_high n h = and_false (leb 2 n) (leb n unit_limit) (lt-leb n unit_limit h)

pub counted_all {ℓ} : {A : Type ℓ} (n : ℕ) (xs : List A) → n ≤ unit_limit → counted n xs ≡ xs
counted_all n xs h = if_true (leb n unit_limit) xs [] (le-leb n unit_limit h)

pub filled_counted : (n : ℕ) (xs : List ℕ) → n ≤ unit_limit → filled unit_limit (counted n xs) ≡ filled unit_limit xs
filled_counted n xs h = ap (filled unit_limit) (counted_all n xs h)

pub counted_none {ℓ} : {A : Type ℓ} (n : ℕ) (xs : List A) → unit_limit < n → counted n xs ≡ []
counted_none n xs h = if_false (leb n unit_limit) xs [] (lt-leb n unit_limit h)
