-- Every network that calls reach, from the fresh one of a legal count or from any that meets the conditions, is fit and
-- shaped, and meets the conditions again: "Every network reached by calls meets these conditions."
use Prim.Native.Nat.{ℕ, ◌≤◌}
use native.Mathlib.Omega.{arith}
use mathlib.Core.Bool.{true}
use mathlib.Core.List.{List, [], ◌∷◌}
use mathlib.Core.Path.{◌≡◌, sym, ap, subst, ◌∙◌}
use borrow.Author.Tests.{eqb-true, leb-true}
use lib.Dec.{eqb, leb}
use Rattle.ground.specs.Limits.{unit_limit, legal_count}
use Rattle.ground.specs.Refusal.{accepted}
use Rattle.rules.specs.Network.{Network, Call, fresh, outcome, call_refusal, step_to, step, fit_network}
use Rattle.rules.specs.Unit.{fresh_unit}
use Rattle.loopfree.specs.Conditions.{is_start}
use Rattle.loopfree.specs.Reached.{run, reached}
use Rattle.loopfree.proofs.ConditionsOfInvariant.{holds_start}
use Rattle.loopfree.proofs.InvariantOfConditions.{start_holds}
use Rattle.loopfree.proofs.ShapedStart.{start_fit, start_shaped}
use Rattle.loopfree.proofs.Invariant.{Holds, Any}
use Rattle.loopfree.proofs.Kept.{keeps_call, fresh_holds}
use Rattle.ground.specs.Each.{none}
use Rattle.ground.proofs.Tests.{both}
use Rattle.rules.proofs.Fit.{FitNetwork, fit_network_of}
use Rattle.rules.proofs.LaidNetwork.{ShapedNetwork}
use Rattle.ground.proofs.Cases.{by_test}
use Rattle.steps.proofs.Fresh.{fresh_shaped, fresh_fit, fresh_shape, fresh-unit, fresh_queue, fresh_down}
use Rattle.steps.proofs.OrderlyNetwork.{Orderly}
use Rattle.steps.proofs.OrderlyCalls.{Roomy, orderly_shaped, outcome_shaped}
use Rattle.lasting.proofs.StaysFit.{orderly_fit, outcome_fit}

-- What every network that is reached is: fit and shaped, and the invariant holds of it.
pub record Kept (net : Network) : Type 0 where
  pub fit : fit_network net ≡ true
  pub shaped : ShapedNetwork net
  pub holds : Holds net.count Any net

-- A start is.
pub start_kept : (net : Network) → is_start net ≡ true → Kept net
start_kept net s = record { fit = start_fit net s; shaped = start_shaped net s; holds = start_holds net s }

-- The fresh network is.
pub fresh_kept : (n : ℕ) → legal_count n ≡ true → Kept (fresh n)
unfolding fresh fresh_unit
fresh_kept n legal =
    record {
      fit = orderly_fit (fresh n) orderly
          (λ x y hx hy. rw (fresh-unit n x hx, fresh-unit n y hy) (fresh_down n x y ∙ sym (fresh_down n y x)))
          roomy;
      shaped = orderly_shaped (fresh n) orderly roomy;
      holds = fresh_holds n;
    }
  where
    low : 2 ≤ n
    low = leb-true 2 n (both (leb 2 n) (leb n unit_limit) legal).0

    high : n ≤ unit_limit
    high = leb-true n unit_limit (both (leb 2 n) (leb n unit_limit) legal).1

    roomy : Roomy (fresh n)
    roomy a b ha hb = rw (fresh_queue n a b ha hb) (omega arith)

    orderly : Orderly (fresh n)
    orderly =
        record {
          low = low;
          high = high;
          shape = fresh_shape n;
          counts = λ i h. ap (λ u. u.count) (fresh-unit n i h);
          own = λ i h. ap (λ u. u.me) (fresh-unit n i h);
          fit = λ i h. rw (fresh-unit n i h) (fresh_fit n i low high h);
          shaped = λ i h. rw (fresh-unit n i h) (fresh_shaped n i high);
          queued = λ a b ha hb. rw (fresh_queue n a b ha hb) none;
          quiet = λ a b ha hb down. fresh_queue n a b ha hb;
        }

-- A step leaves it so: a refused one changes nothing.
pub step_kept : (net : Network) → Kept net → (call : Call) → Kept (step net call)
unfolding step step_to
step_kept net kept call =
    by_test (eqb (call_refusal net call) accepted)
    (λ t.
    let taken : call_refusal net call ≡ accepted = eqb-true (call_refusal net call) accepted t in
    let f : FitNetwork net = fit_network_of net kept.fit in
    let holds : Holds net.count Any (outcome net call) =
    keeps_call net.count f.high net kept.holds call (outcome net call) taken in
    rw t
    (record {
      fit = outcome_fit net f kept.shaped call taken;
      shaped = outcome_shaped net f kept.shaped call taken;
      holds = subst (λ (n : ℕ). Holds n Any (outcome net call)) (sym holds.shape.counted) holds;
    }))
    (λ t. rw t kept)

-- So do calls one after the other.
pub run_kept : (net : Network) → Kept net → (calls : List Call) → Kept (run net calls)
unfolding run
run_kept net kept [] = kept
run_kept net kept (call ∷ rest) = run_kept (step net call) (step_kept net kept call) rest

-- Such a network is a start.
kept_start : (net : Network) → Kept net → is_start net ≡ true
kept_start net kept = holds_start net kept.fit kept.shaped kept.holds

-- From any start: the network that calls reach is one.
pub start_again : (start : Network) → is_start start ≡ true → (calls : List Call) → is_start (run start calls) ≡ true
start_again start s calls = kept_start (run start calls) (run_kept start (start_kept start s) calls)

-- From the fresh network.
module _ (n : ℕ) (legal : legal_count n ≡ true) (calls : List Call) where
  -- What every network that calls reach is.
  pub reached_kept : Kept (reached n calls)
  reached_kept = run_kept (fresh n) (fresh_kept n legal) calls

  -- It is fit.
  pub reached_fit : fit_network (reached n calls) ≡ true
  reached_fit = reached_kept.fit

  -- It is shaped.
  pub reached_shaped : ShapedNetwork (reached n calls)
  reached_shaped = reached_kept.shaped

  -- It is a start.
  pub reached_start : is_start (reached n calls) ≡ true
  reached_start = kept_start (reached n calls) reached_kept
