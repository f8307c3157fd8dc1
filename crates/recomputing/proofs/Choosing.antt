-- Choosing the nearest unit that isn't settled, by a scan that counts up.
use Prim.Native.Nat.{ℕ, ◌+◌, ◌≤◌, ◌<◌}
use native.Mathlib.Omega.{arith}
use mathlib.Core.Bool.{Bool, true, false}
use mathlib.Core.List.{List}
use mathlib.Core.Logic.{◌≢◌}
use mathlib.Core.Path.{◌≡◌}
use borrow.Author.Count.{below_more}
use Rattle.ground.specs.Rows.{at}
use Rattle.ground.proofs.Tests.{not_both}
use Rattle.recomputing.specs.Settling.{is_settled, Nearest}

-- Of the units below j: the nearest that isn't settled, or n where all are settled.
pub record Chosen (n : ℕ) (distances : List ℕ) (settled : List Bool) (j best : ℕ) : Type 0 where
  pub at_most : best ≤ n
  pub found : best < n → (best < j) × (is_settled settled best ≡ false)
  pub least : best < n → (i : ℕ) → i < j → is_settled settled i ≡ false → at distances best ≤ at distances i
  pub none : best ≡ n → (i : ℕ) → i < j → is_settled settled i ≡ true

module _ {n : ℕ} {d : List ℕ} {s : List Bool} where
  -- Before the first unit.
  pub chosen_none : Chosen n d s 0 n
  chosen_none =
      record {
        at_most = omega arith;
        found = λ l. absurd (omega arith);
        least = λ l. absurd (omega arith);
        none = λ e i l. absurd (omega arith);
      }

  module _ {j best : ℕ} (c : Chosen n d s j best) where
    -- The next unit is settled.
    pub chosen_skip : is_settled s j ≡ true → Chosen n d s (j + 1) best
    chosen_skip t =
        record {
          at_most = c.at_most;
          found = λ l. (omega (arith, (c.found l).0), (c.found l).1);
          least = λ l. below_more (λ i. is_settled s i ≡ false → at d best ≤ at d i) j (c.least l)
              (λ f. absurd (not_both (is_settled s j) t f));
          none = λ e. below_more (λ i. is_settled s i ≡ true) j (c.none e) t;
        }

    -- The next unit is the first that isn't settled.
    pub chosen_first : j < n → is_settled s j ≡ false → best ≡ n → Chosen n d s (j + 1) j
    chosen_first h f e =
        record {
          at_most = omega arith;
          found = λ l. (omega arith, f);
          least = λ l. below_more (λ i. is_settled s i ≡ false → at d j ≤ at d i) j
              (λ i b q. absurd (not_both (is_settled s i) (c.none e i b) q))
              (λ q. omega arith);
          none = λ q. absurd (omega arith);
        }

    -- The next unit is nearer.
    pub chosen_nearer : j < n → is_settled s j ≡ false → best ≢ n → at d j < at d best → Chosen n d s (j + 1) j
    chosen_nearer h f e l =
        record {
          at_most = omega arith;
          found = λ b. (omega arith, f);
          least = λ b. below_more (λ i. is_settled s i ≡ false → at d j ≤ at d i) j
              (λ i a q. omega (arith, c.least (omega (arith, c.at_most)) i a q))
              (λ q. omega arith);
          none = λ q. absurd (omega arith);
        }

    -- The next unit is no nearer.
    pub chosen_kept : best ≢ n → at d best ≤ at d j → Chosen n d s (j + 1) best
    chosen_kept e l =
        record {
          at_most = c.at_most;
          found = λ b. (omega (arith, (c.found b).0), (c.found b).1);
          least = λ b. below_more (λ i. is_settled s i ≡ false → at d best ≤ at d i) j (c.least b) (λ q. l);
          none = λ q. absurd (e q);
        }

  -- After the last unit.
  pub chosen_done : {best : ℕ} → Chosen n d s n best → Nearest n d s best
  chosen_done c =
      record {
        at_most = c.at_most;
        open_yet = λ l. (c.found l).1;
        least = c.least;
        none = c.none;
      }
