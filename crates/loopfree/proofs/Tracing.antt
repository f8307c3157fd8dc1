-- The tracer on a network of which the invariant holds: its path follows successors, and it never answers circling, for
-- then a path of one unit more than there are would follow successors.
use Prim.Native.Nat.{ℕ, zero, suc, ◌-◌, ◌%◌, ◌<◌}
use native.Mathlib.Nat.{mod-lt}
use native.Mathlib.Omega.{arith}
use mathlib.Core.Bool.{Bool, true, false}
use mathlib.Core.List.{List, [], ◌∷◌}
use mathlib.Core.Logic.{◌≢◌}
use mathlib.Core.Path.{◌≡◌, refl, ap}
use lib.Dec.{eqb}
use lib.ListN.{length, drop}
use borrow.Author.Tests.{eqb-false}
use Rattle.std.specs.Prelude.{if◌then◌else◌}
use Rattle.ground.specs.Rows.{at, rising}
use Rattle.ground.specs.Each.{Each, none, one}
use Rattle.ground.proofs.Each.{each_append, each_at}
use Rattle.rules.specs.Network.{Network, unit_at, successors_in}
use Rattle.rules.specs.Tracer.{Trace, Ending, arrived, stranded, circling, ends_here, goes_on, chosen, trace_from, trace}
use Rattle.rules.specs.Unit.{Unit, is_successor, successors}
use Rattle.loopfree.specs.Reached.{Follows, starts, hop}
use Rattle.ground.proofs.Cases.{by_test}
use Rattle.loopfree.proofs.Following.{is_unit, few_units}
use Rattle.loopfree.proofs.Invariant.{Holds, Any}

-- The test holds of each unit that `rising` lists.
rising_each : (n : ℕ) (p : ℕ → Bool) → Each (λ x. p x ≡ true) (rising n p)
rising_each zero p = none
rising_each (suc n) p = each_append (rising_each n p) (by_test (p n) (λ t. rw t (one t none)) (λ t. rw t none))

-- The successor that a choice takes is one.
chosen_successor : (u : Unit) (j choice : ℕ) → eqb (length (successors u j)) 0 ≡ false
    → is_successor u j (chosen (successors u j) choice) ≡ true
unfolding successors
chosen_successor u j choice e =
    each_at (rising_each u.count (is_successor u j)) (choice % length (successors u j)) 0
    (mod-lt choice (let d : length (successors u j) ≢ 0 = eqb-false (length (successors u j)) 0 e in omega arith))

-- 1 for circling, 0 for the other endings.
abbrev circles : Ending → ℕ
circles arrived = 0
circles stranded = 0
circles circling = 1

module _ (n : ℕ) (net : Network) (holds : Holds n Any net) (destination : ℕ) where
  -- Whether unit i has no successor; which one the first of the choices takes there.
  abbrev none_at : ℕ → Bool
  none_at i = eqb (length (successors_in net i destination)) 0

  abbrev next : ℕ → List ℕ → ℕ
  next i choices = chosen (successors_in net i destination) (at choices 0)

  -- Three cases at a unit: it is the destination, it has no successor, or the trace goes on.
  at_unit : (P : Trace → Type 0) (i : ℕ) (rest : Trace) → P (ends_here arrived i) → P (ends_here stranded i)
      → (none_at i ≡ false → P rest)
      → P (if eqb i destination then ends_here arrived i else if none_at i then ends_here stranded i else rest)
  at_unit P i rest a s r =
      by_test (eqb i destination) (λ t. rw t a) (λ t. rw t (by_test (none_at i) (λ z. rw z s) (λ z. rw z (r z))))

  -- A path that follows successors from unit i.
  record Followed (i : ℕ) : Type 0 where
    rest : List ℕ
    followed : Follows net destination (i ∷ rest)

  -- A path of the unit alone.
  here : (i : ℕ) → i < n → Followed i
  here i h = record { rest = []; followed = starts {i = i} (rw holds.shape.counted h) }

  -- A path that takes a successor first.
  further : (i : ℕ) → i < n → (choices : List ℕ) → none_at i ≡ false → Followed (next i choices) → Followed i
  further i h choices s f =
      record {
        rest = next i choices ∷ f.rest;
        followed = hop {i = i} (rw holds.shape.counted h)
            (chosen_successor (unit_at net i) destination (at choices 0) s) f.followed;
      }

  -- The successor taken is a unit.
  next_unit : (i : ℕ) (choices : List ℕ) → none_at i ≡ false → next i choices < n
  next_unit i choices s =
      is_unit n net holds destination i (next i choices) (chosen_successor (unit_at net i) destination (at choices 0) s)

  -- A trace follows successors from its unit; and where it ends circling, a path that is longer by one does too.
  record Traced (left i : ℕ) (t : Trace) : Type 0 where
    way : Followed i
    met : t.path ≡ i ∷ way.rest
    longer : t.ending ≡ circling → (f : Followed i) × (length f.rest ≡ suc left)

  -- A trace that ends at its unit, at the destination or for want of a successor.
  ends : (left i : ℕ) → i < n → (ending : Ending) → circles ending ≡ 0 → Traced left i (ends_here ending i)
  unfolding here
  ends left i h ending z =
      record { way = here i h; met = refl; longer = λ e. absurd (omega (arith, ap circles e)) }

  -- One that would go on, with no hop left.
  stops : (i : ℕ) → i < n → (choices : List ℕ) → none_at i ≡ false → Traced zero i (ends_here circling i)
  unfolding here further
  stops i h choices s =
      record {
        way = here i h;
        met = refl;
        longer = λ e. (further i h choices s (here (next i choices) (next_unit i choices s)), refl);
      }

  -- One that goes on.
  goes : (left i : ℕ) → i < n → (choices : List ℕ) → none_at i ≡ false → (t : Trace) → Traced left (next i choices) t
      → Traced (suc left) i (goes_on i t)
  unfolding further
  goes left i h choices s t r =
      record {
        way = further i h choices s r.way;
        met = ap (λ (p : List ℕ). i ∷ p) r.met;
        longer = λ e. (further i h choices s (r.longer e).0, ap suc (r.longer e).1);
      }

  -- Every trace.
  traced : (left i : ℕ) (choices : List ℕ) → i < n → Traced left i (trace_from net destination left i choices)
  unfolding trace_from
  traced zero i choices h =
      at_unit (Traced zero i) i (ends_here circling i)
      (ends zero i h arrived refl) (ends zero i h stranded refl) (stops i h choices)
  traced (suc left) i choices h =
      at_unit (Traced (suc left) i) i (goes_on i (trace_from net destination left (next i choices) (drop 1 choices)))
      (ends (suc left) i h arrived refl) (ends (suc left) i h stranded refl)
      (λ s. goes left i h choices s (trace_from net destination left (next i choices) (drop 1 choices))
      (traced left (next i choices) (drop 1 choices) (next_unit i choices s)))

  module _ (start : ℕ) (choices : List ℕ) (h : start < n) where
    -- The whole trace.
    whole : Traced (net.count - 1) start (trace net start destination choices)
    whole = traced (net.count - 1) start choices h

    -- Its path follows successors.
    pub trace_followed : Follows net destination (trace net start destination choices).path
    trace_followed = rw whole.met whole.way.followed

    -- It does not end circling.
    pub trace_ending : (trace net start destination choices).ending ≢ circling
    trace_ending e =
        let f : (f : Followed start) × (length f.rest ≡ suc (net.count - 1)) = whole.longer e in
        omega (arith, holds.shape.counted, few_units n net holds destination f.0.followed)
