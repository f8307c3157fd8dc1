-- Scanning up with a strict test keeps the least value and the lowest place that has it.
use Prim.Native.Nat.{ℕ, ◌+◌, ◌≤◌, ◌<◌, min}
use native.Mathlib.Numerals.{add-one}
use native.Mathlib.Omega.{arith}
use mathlib.Core.Logic.{⊎_elim}
use mathlib.Core.Path.{◌≡◌, refl, sym}
use borrow.Author.Count.{below_more}
use borrow.Author.Tests.{lt-ltb, le-ltb, eq-eqb, ne_eqb}
use lib.Dec.{eqb, ltb}
use Rattle.std.specs.Prelude.{if◌then◌else◌}
use Rattle.ground.specs.Limits.{far}
use Rattle.ground.specs.Rows.{least, lowest}
use Rattle.ground.proofs.Lists.{lowest_is}
use Rattle.ground.proofs.Tests.{less_or_not}

-- After k places: the least value so far, and the lowest place that has it, or n where none is finite.
pub record Scanned (n : ℕ) (f : ℕ → ℕ) (k nearest best : ℕ) : Type 0 where
  pub least_yet : nearest ≡ least k f
  pub finite : nearest ≤ far
  pub found : nearest < far → (best < k) × (f best ≡ nearest)
  pub above : nearest < far → (i : ℕ) → i < best → nearest < f i
  pub missing : far ≤ nearest → best ≡ n
  pub at_most : (i : ℕ) → i < k → nearest ≤ f i

-- One place more.
least_more : (k : ℕ) (f : ℕ → ℕ) → least (k + 1) f ≡ min (least k f) (f k)
least_more k f = rw add-one

module _ {n : ℕ} {f : ℕ → ℕ} where
  -- Before the first place.
  pub scan_none : Scanned n f 0 far n
  scan_none =
      record {
        least_yet = refl;
        finite = omega arith;
        found = λ l. absurd (omega arith);
        above = λ l. absurd (omega arith);
        missing = λ l. refl;
        at_most = λ i l. absurd (omega arith);
      }

  -- The next place has less.
  pub scan_less : {k nearest best : ℕ} → Scanned n f k nearest best → f k < nearest → Scanned n f (k + 1) (f k) k
  scan_less {k = k} s l =
      record {
        least_yet = omega (arith, least_more k f, s.least_yet);
        finite = omega (arith, s.finite);
        found = λ h. (omega arith, refl);
        above = λ h i b. omega (arith, s.at_most i b);
        missing = λ h. absurd (omega (arith, s.finite));
        at_most = below_more (λ i. f k ≤ f i) k (λ i b. omega (arith, s.at_most i b)) (omega arith);
      }

  -- The next place has no less.
  pub scan_more : {k nearest best : ℕ} → Scanned n f k nearest best → nearest ≤ f k → Scanned n f (k + 1) nearest best
  scan_more {k = k} {nearest = nearest} s l =
      record {
        least_yet = omega (arith, least_more k f, s.least_yet);
        finite = s.finite;
        found = λ h. (omega (arith, (s.found h).0), (s.found h).1);
        above = s.above;
        missing = s.missing;
        at_most = below_more (λ i. nearest ≤ f i) k s.at_most l;
      }

  -- After the last place the best is the one that the rules prefer.
  pub scan_done : {nearest best : ℕ} → Scanned n f n nearest best
      → best ≡ (if ltb (least n f) far then lowest n (λ k. eqb (f k) (least n f)) else n)
  scan_done {nearest = nearest} {best = best} s =
      rw (← s.least_yet)
      (⊎_elim
      (λ l. rw (lt-ltb nearest far l) (sym
      (lowest_is n (λ k. eqb (f k) nearest) best
      (omega (arith, (s.found l).0))
      (λ i b. ne_eqb (f i) nearest (λ e. omega (arith, s.above l i b)))
      (λ b. eq-eqb (f best) nearest (s.found l).1))))
      (λ l. rw (le-ltb nearest far l) (s.missing l))
      (less_or_not nearest far))
