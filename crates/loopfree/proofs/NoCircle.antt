-- Demand 3: "From the fresh network, after any sequence of link events, cost changes and deliveries, refused ones
-- included, stopped at any point: following any choice of successors, no hub is met twice, feasible distances fall at
-- each hop, hops are at most hubs less one." The sequence may as well start from any network that meets the conditions
-- (`is_start`).
--
-- `run start calls` is the network that any list of calls leaves of a start, refused calls being steps that change
-- nothing, and any part of a list is a list; `reached n calls` is what they leave of the fresh one. `Follows` is any path
-- along successors for a destination. The tracer's path is one of these, and it never answers circling.
use Prim.Native.Nat.{ℕ, ◌-◌, ◌≤◌, ◌<◌}
use native.Mathlib.Omega.{arith}
use mathlib.Core.Bool.{true}
use mathlib.Core.List.{List}
use mathlib.Core.Logic.{◌≢◌}
use mathlib.Core.Path.{◌≡◌}
use lib.ListN.{length}
use Rattle.ground.specs.Limits.{legal_count}
use Rattle.ground.specs.Rows.{at}
use Rattle.ground.specs.Distinct.{Distinct}
use Rattle.rules.specs.Network.{Network, Call, unit_at, is_successor_in}
use Rattle.rules.specs.Tracer.{circling, trace, hops}
use Rattle.rules.proofs.Fit.{fit_network_of}
use Rattle.loopfree.specs.Conditions.{is_start}
use Rattle.loopfree.specs.Reached.{run, reached, Follows}
use Rattle.loopfree.proofs.InvariantOfConditions.{start_holds}
use Rattle.loopfree.proofs.ShapedStart.{start_fit}
use Rattle.loopfree.proofs.Following.{falls, distinct, few_units}
use Rattle.loopfree.proofs.Invariant.{Holds, Any}
use Rattle.loopfree.proofs.Kept.{keeps_run, reached_holds}
use Rattle.loopfree.proofs.Tracing.{trace_followed, trace_ending}

-- What demand 3 says of one network of n units, for one destination.
pub record LoopFree (n : ℕ) (net : Network) (destination : ℕ) : Type 0 where
  -- "feasible distances fall at each hop"
  pub falling : (i k : ℕ) → is_successor_in net i destination k ≡ true
      → at (unit_at net k).feasible destination < at (unit_at net i).feasible destination
  -- "no hub is met twice"
  pub distinct_units : (path : List ℕ) → Follows net destination path → Distinct path
  -- "hops are at most hubs less one"
  pub short : (path : List ℕ) → Follows net destination path → length path - 1 ≤ n - 1
  -- The path that the tracer answers follows successors, and it never answers circling.
  pub traced : (start : ℕ) → start < n → (choices : List ℕ)
      → Follows net destination (trace net start destination choices).path
  pub arriving : (start : ℕ) → start < n → (choices : List ℕ) → (trace net start destination choices).ending ≢ circling

-- It is so of each network of which the invariant holds.
holds_free : (n : ℕ) (net : Network) → Holds n Any net → (destination : ℕ) → LoopFree n net destination
holds_free n net holds destination =
    record {
      falling = falls n net holds destination;
      distinct_units = λ path f. distinct n net holds destination f;
      short = λ path f. omega (arith, few_units n net holds destination f);
      traced = λ start h choices. trace_followed n net holds destination start choices h;
      arriving = λ start h choices. trace_ending n net holds destination start choices h;
    }

-- So it is of each network that calls reach from a start.
pub loop_free : (start : Network) → is_start start ≡ true → (calls : List Call) (destination : ℕ)
    → LoopFree start.count (run start calls) destination
loop_free start s calls destination =
    holds_free start.count (run start calls)
    (keeps_run start.count (fit_network_of start (start_fit start s)).high start (start_holds start s) calls) destination

-- From the fresh network.
module _ (n : ℕ) (legal : legal_count n ≡ true) (calls : List Call) (destination : ℕ) where
  -- The network that is reached.
  free : LoopFree n (reached n calls) destination
  free = holds_free n (reached n calls) (reached_holds n legal calls) destination

  -- "feasible distances fall at each hop"
  pub feasible_falls : (i k : ℕ) → is_successor_in (reached n calls) i destination k ≡ true
      → at (unit_at (reached n calls) k).feasible destination < at (unit_at (reached n calls) i).feasible destination
  feasible_falls = free.falling

  -- "no hub is met twice"
  pub never_twice : {path : List ℕ} → Follows (reached n calls) destination path → Distinct path
  never_twice {path} f = free.distinct_units path f

  -- "hops are at most hubs less one"
  pub few_hops : {path : List ℕ} → Follows (reached n calls) destination path → length path - 1 ≤ n - 1
  few_hops {path} f = free.short path f

  module _ (start : ℕ) (unit : start < n) (choices : List ℕ) where
    -- The path that the tracer answers follows successors.
    pub trace_follows : Follows (reached n calls) destination (trace (reached n calls) start destination choices).path
    trace_follows = free.traced start unit choices

    -- So it meets no unit twice.
    pub trace_never_twice : Distinct (trace (reached n calls) start destination choices).path
    trace_never_twice = never_twice trace_follows

    -- It has at most the count less one hops.
    pub trace_few_hops : hops (trace (reached n calls) start destination choices) ≤ n - 1
    trace_few_hops = few_hops trace_follows

    -- And the tracer never answers circling.
    pub trace_never_circles : (trace (reached n calls) start destination choices).ending ≢ circling
    trace_never_circles = free.arriving start unit choices
