-- The fresh unit and the fresh network: their lists have a place for each unit, no link is up, no message is queued, and
-- the unit is fit.
use Prim.Native.Nat.{ℕ, ◌≤◌, ◌<◌}
use native.Mathlib.Omega.{arith}
use mathlib.Core.Bool.{true, false}
use mathlib.Core.List.{List, []}
use mathlib.Core.Logic.{inl}
use mathlib.Core.Path.{◌≡◌, refl, ap, ◌∙◌}
use borrow.Author.Tests.{eq-eqb, ne_eqb}
use lib.Dec.{eqb}
use lib.ListN.{length, get_or, length-replicate}
use Rattle.std.specs.Prelude.{if◌then◌else◌}
use Rattle.ground.specs.Limits.{unit_limit, far}
use Rattle.ground.specs.Rows.{tab, zeros}
use Rattle.ground.proofs.Lists.{at_zeros}
use Rattle.ground.proofs.Rows.{length_tab, tab_at}
use Rattle.tree.specs.Recompute.{copy_of}
use Rattle.tree.proofs.Rooted.{zeros_tree}
use Rattle.rules.specs.Message.{Message}
use Rattle.rules.specs.Network.{unit_at, queue, fresh}
use Rattle.rules.specs.Unit.{is_neighbour, fresh_unit, fit_unit}
use Rattle.rules.proofs.FitUnit.{facts_fit}
use Rattle.rules.proofs.Laid.{ShapedUnit}
use Rattle.steps.proofs.NetworkLists.{Shape}

-- The fresh unit is shaped.
pub fresh_shaped : (n me : ℕ) → n ≤ unit_limit → ShapedUnit (fresh_unit n me)
unfolding fresh_unit
fresh_shaped n me low =
    record {
      limit = low;
      costs = length-replicate n 0;
      awaited = length-replicate n 0;
      tree = length-replicate n 0;
      feasible = length_tab n (λ j. if eqb j me then 0 else far);
      copies = length_tab n (λ k. zeros n);
      copy = λ k l. ap length (tab_at n (λ i. zeros n) k [] l) ∙ length-replicate n 0;
    }

-- Its copies are empty.
pub fresh_copy : (n i k : ℕ) → k < n → copy_of (fresh_unit n i).copies k ≡ zeros n
unfolding fresh_unit
fresh_copy n i k h = tab_at n (λ x. zeros n) k [] h

-- It has no neighbour.
pub fresh_down : (n i k : ℕ) → is_neighbour (fresh_unit n i) k ≡ false
unfolding fresh_unit
fresh_down n i k = rw (at_zeros n k)

-- It is fit.
pub fresh_fit : (n me : ℕ) → 2 ≤ n → n ≤ unit_limit → me < n → fit_unit (fresh_unit n me) ≡ true
unfolding fresh_unit
fresh_fit n me low high below =
    facts_fit (fresh_unit n me)
    (record {
      low = low;
      high = high;
      me = below;
      cost = λ k l. rw (at_zeros n k) (omega arith);
      own_cost = at_zeros n me;
      wait = λ k l. rw (at_zeros n k) (omega arith);
      wait_down = λ k l z. at_zeros n k;
      copy_down = λ k l z. fresh_copy n me k l;
      copy_up = λ k l d. absurd (d (at_zeros n k));
      tree = zeros_tree n me;
      own_feasible = tab_at n first me 0 below ∙ rw (eq-eqb me me refl);
      feasible = λ j l d. inl (tab_at n first j 0 l ∙ rw (ne_eqb j me d));
    })
  where
    first : ℕ → ℕ
    first j = if eqb j me then 0 else far

-- The fresh network's lists.
pub fresh_shape : (n : ℕ) → Shape n (fresh n)
unfolding fresh
fresh_shape n =
    record {
      counted = refl;
      units_length = length_tab n (fresh_unit n);
      queues_length = length_tab n _;
      rows_length = λ a h. ap length (tab_at n (λ x. tab n (λ y. [])) a [] h) ∙ length_tab n _;
    }

-- Its units are fresh.
pub fresh-unit : (n i : ℕ) → i < n → unit_at (fresh n) i ≡ fresh_unit n i
unfolding fresh
fresh-unit n i h = tab_at n (fresh_unit n) i (fresh_unit 0 0) h

-- Its queues are empty.
pub fresh_queue : (n x y : ℕ) → x < n → y < n → queue (fresh n) x y ≡ []
unfolding fresh
fresh_queue n x y hx hy =
    ap (λ (row : List (List Message)). get_or row y []) (tab_at n (λ a. tab n (λ b. [])) x [] hx)
    ∙ tab_at n (λ b. []) y [] hy
