-- The quick engine's arrays: what they hold as the engine starts, after each turn, and at the end.
use Prim.Native.Nat.{ℕ, zero, suc, ◌+◌, ◌-◌, ◌≤◌, ◌<◌, min}
use native.Mathlib.Omega.{arith}
use mathlib.Core.Bool.{Bool, true, false}
use mathlib.Core.List.{List, []}
use mathlib.Core.Logic.{◌≢◌}
use mathlib.Core.Path.{◌≡◌, refl, sym, ap, ◌∙◌}
use borrow.Author.Tests.{eq-eqb, ne_eqb}
use lib.Dec.{eqb}
use lib.ListN.{length, get_or, set, replicate, length-set}
use lib.Seq.{get_or-set_same, get_or-set_other}
use Rattle.std.specs.Prelude.{if◌then◌else◌}
use Rattle.ground.specs.Limits.{unit_limit, far}
use Rattle.ground.specs.Rows.{at, tab, filled, least}
use Rattle.tree.specs.Shortest.{link, offer, shortest_within, shortest}
use Rattle.tree.specs.Tree.{plus}
use Rattle.ground.proofs.Filling.{filled_tab_at}
use Rattle.ground.proofs.Rows.{length_tab, tab_ext, tab_row}
use Rattle.ground.proofs.Tests.{if_true, if_false}
use Rattle.tree.proofs.Shortest.{Links, unique, shortest_facts}
use Rattle.recomputing.specs.Settling.{at_start, is_settled, Nearest, relaxed}
use Rattle.recomputing.proofs.Settled.{Settling, settling_none, settling_all, settling_more, settled_facts}

-- Of no unit of an array of `false` is true.
none_settled : (m j : ℕ) → get_or (replicate m false) j false ≡ false
none_settled zero j = refl
none_settled (suc m) zero = refl
none_settled (suc m) (suc j) = none_settled m j

-- A filled row is made from its own places.
own_places : (m n : ℕ) (f : ℕ → ℕ) → filled m (tab n f) ≡ filled m (tab n (at (filled m (tab n f))))
own_places m n f = ap (filled m) (tab_ext n f (at (filled m (tab n f))) (λ i h. sym (filled_tab_at m n f i h)))

-- The shortest distances have a place for each unit.
length_shortest : (n root : ℕ) (links : List (List ℕ)) (m : ℕ) → length (shortest_within n root links m) ≡ n
unfolding shortest_within
length_shortest n root links zero = length_tab n (λ j. if eqb j root then 0 else far)
length_shortest n root links (suc m) =
    length_tab n (λ j. min (at (shortest_within n root links m) j) (least n (λ i. offer links (shortest_within n root links m) i j)))

-- After a number of turns.
pub record Turned (n root : ℕ) (links : List (List ℕ)) (distances : List ℕ) (settled : List Bool) (turns : ℕ) : Type 0 where
  pub shape : distances ≡ filled unit_limit (tab n (at distances))
  pub places : length settled ≡ unit_limit
  pub settling : Settling n root links (at distances) (is_settled settled) turns

module _ {n root : ℕ} {links : List (List ℕ)} where
  -- Before the first.
  pub turned_none : root < n → Turned n root links (filled unit_limit (at_start n root)) (replicate unit_limit false) 0
  turned_none here =
      record {
        shape = own_places unit_limit n (λ j. if eqb j root then 0 else far);
        places = refl;
        settling = settling_none n root links _ _ at_root elsewhere (none_settled unit_limit) here;
      }
    where
      first : (j : ℕ) → j < n → at (filled unit_limit (at_start n root)) j ≡ (if eqb j root then 0 else far)
      first = filled_tab_at unit_limit n (λ j. if eqb j root then 0 else far)

      at_root : at (filled unit_limit (at_start n root)) root ≡ 0
      at_root = first root here ∙ if_true (eqb root root) 0 far (eq-eqb root root refl)

      elsewhere : (j : ℕ) → j < n → j ≢ root → at (filled unit_limit (at_start n root)) j ≡ far
      elsewhere j h r = first j h ∙ if_false (eqb j root) 0 far (ne_eqb j root r)

  module _ {d : List ℕ} {s : List Bool} {turns i : ℕ} (t : Turned n root links d s turns) (c : Nearest n d s i) where
    -- A turn that settles unit i.
    pub turned_more : i < n → n ≤ unit_limit → root < n
        → Turned n root links (filled unit_limit (relaxed n d i (get_or links i []))) (set s i true) (turns + 1)
    turned_more h few here =
        record {
          shape = own_places unit_limit n lower;
          places = length-set s i true ∙ t.places;
          settling =
              settling_more n root links (at d) _ (is_settled s) _ turns i t.settling h
              (c.open_yet h) (c.least h)
              (filled_tab_at unit_limit n lower)
              (get_or-set_same s i true false (omega (arith, t.places)))
              (λ j r. get_or-set_other s i j true false r)
              here;
        }
      where
        lower : ℕ → ℕ
        lower j = min (at d j) (plus (at d i) (link links i j))

    -- A turn that finds all settled.
    pub turned_all : n ≤ i → Turned n root links d s (turns + 1)
    turned_all h =
        record {
          shape = t.shape;
          places = t.places;
          settling = settling_all n root links (at d) (is_settled s) turns t.settling (c.none (omega (arith, c.at_most)));
        }

  -- After as many turns as units.
  pub turned_done : {d : List ℕ} {s : List Bool} → Turned n root links d s n → Links n links → root < n
      → d ≡ filled unit_limit (shortest n root links)
  turned_done {d = d} {s = s} t costs here =
      t.shape
      ∙ ap (filled unit_limit)
      (tab_ext n (at d) (at (shortest n root links))
      (unique n root links costs (at d) (at (shortest n root links))
      (settled_facts n root links (at d) (is_settled s) t.settling)
      (shortest_facts n root links here costs))
      ∙ tab_row n (shortest n root links) 0 (length_shortest n root links (n - 1)))
