-- A start is fit and shaped, and a shaped network has the places that are asked of a start.
use Prim.Native.Nat.{ℕ, ◌<◌}
use native.Mathlib.Omega.{arith}
use mathlib.Core.Bool.{true}
use mathlib.Core.List.{[]}
use mathlib.Core.Path.{◌≡◌, ap, ◌∙◌}
use lib.Dec.{eqb}
use lib.ListN.{length, get_or, length-replicate}
use borrow.Author.Tests.{eqb-true, eq-eqb}
use Rattle.ground.specs.Rows.{at}
use Rattle.ground.proofs.Lists.{parts}
use Rattle.ground.proofs.Rows.{every_at, every_of}
use Rattle.tree.specs.Recompute.{copy_of}
use Rattle.tree.proofs.Rooted.{tree_length}
use Rattle.rules.specs.Network.{Network, unit_at, fit_network}
use Rattle.rules.specs.Unit.{Unit}
use Rattle.rules.proofs.Fit.{FitNetwork, fit_network_of, fit_queue_shaped}
use Rattle.rules.proofs.FitUnit.{FitFacts, fit_facts}
use Rattle.rules.proofs.Laid.{ShapedUnit}
use Rattle.rules.proofs.LaidNetwork.{ShapedNetwork}
use Rattle.loopfree.specs.Conditions.{meets_conditions, has_rows, has_places, is_start}
use Rattle.ground.proofs.Cases.{by_equal}

module _ (net : Network) (e : is_start net ≡ true) where
  -- The network is fit.
  pub start_fit : fit_network net ≡ true
  unfolding is_start meets_conditions
  start_fit = search parts

  -- What that says.
  fits : FitNetwork net
  fits = fit_network_of net start_fit

  -- What it says of a unit.
  unit_fits : (i : ℕ) → i < net.count → FitFacts (unit_at net i)
  unit_fits i h = fit_facts (unit_at net i) (fits.unit i h)

  -- A unit's rows have a place for each unit.
  rows : (i : ℕ) → i < net.count → has_rows (unit_at net i) ≡ true
  unfolding is_start has_places
  rows i h = every_at net.count (λ k. has_rows (unit_at net k)) (search parts) i h

  -- So each unit is shaped.
  unit_shaped : (i : ℕ) → i < net.count → ShapedUnit (unit_at net i)
  unfolding has_rows
  unit_shaped i h =
      let u : Unit = unit_at net i in
      let r : has_rows u ≡ true = rows i h in
      let f : FitFacts u = unit_fits i h in
      record {
        limit = f.high;
        costs = eqb-true (length u.costs) u.count (search parts);
        awaited = eqb-true (length u.awaited) u.count (search parts);
        tree = tree_length u.count u.me u.tree f.tree;
        feasible = eqb-true (length u.feasible) u.count (search parts);
        copies = eqb-true (length u.copies) u.count (search parts);
        copy = λ k l. by_equal (at u.costs k) 0
            (λ z. ap length (f.copy_down k l z) ∙ length-replicate u.count 0)
            (λ d. tree_length u.count k (copy_of u.copies k) (f.copy_up k l d));
      }

  -- So the network is.
  pub start_shaped : ShapedNetwork net
  unfolding is_start has_places
  start_shaped =
      record {
        low = omega (arith, fits.low);
        high = fits.high;
        units = eqb-true (length net.units) net.count (search parts);
        counts = fits.counts;
        unit = unit_shaped;
        queues = eqb-true (length net.queues) net.count (search parts);
        row = λ a h. eqb-true (length (get_or net.queues a [])) net.count
            (every_at net.count (λ k. eqb (length (get_or net.queues k [])) net.count) (search parts) a h);
        each = λ a b ha hb. fit_queue_shaped net a b (fits.queued a b ha hb);
      }

-- The lists of a shaped network have a place for each unit.
pub shaped_places : (net : Network) → ShapedNetwork net → has_places net ≡ true
unfolding has_places has_rows
shaped_places net s =
    rw (
      eq-eqb _ _ s.units,
      every_of net.count (λ i. has_rows (unit_at net i)) rows,
      eq-eqb _ _ s.queues,
    )
    (every_of net.count (λ a. eqb (length (get_or net.queues a [])) net.count) (λ a h. eq-eqb _ _ (s.row a h)))
  where
    rows : (i : ℕ) → i < net.count → has_rows (unit_at net i) ≡ true
    rows i h =
        let u : ShapedUnit (unit_at net i) = s.unit i h in
        rw (eq-eqb _ _ u.costs, eq-eqb _ _ u.awaited, eq-eqb _ _ u.feasible, eq-eqb _ _ u.copies)
