-- What the invariant says of paths: feasible distances fall from a unit to its successor, so a path that follows
-- successors meets no unit twice and has at most as many units as there are.
use Prim.Native.Nat.{ℕ, ◌≤◌, ◌<◌}
use native.Mathlib.Omega.{arith}
use mathlib.Core.Bool.{true}
use mathlib.Core.List.{List, ◌∷◌}
use mathlib.Core.Logic.{◌≢◌, ⊎_elim}
use mathlib.Core.Path.{◌≡◌, refl, sym, ap, ◌∙◌}
use lib.Dec.{eqb, ltb}
use lib.ListN.{length, get_or-eq_default}
use borrow.Author.Tests.{ltb-true, eqb-false, not-true}
use Rattle.ground.specs.Rows.{at}
use Rattle.ground.specs.Each.{Each, none, one}
use Rattle.ground.proofs.Each.{each_map}
use Rattle.ground.specs.Distinct.{Distinct, alone, apart}
use Rattle.ground.proofs.Pigeonhole.{Below, pigeonhole}
use Rattle.ground.proofs.Tests.{both, less_or_not}
use Rattle.tree.specs.Recompute.{copy_of}
use Rattle.tree.specs.Tree.{distance}
use Rattle.rules.specs.Network.{Network, unit_at, is_successor_in}
use Rattle.rules.specs.Unit.{Unit, fresh_unit, is_neighbour, copied_distance, is_successor}
use Rattle.loopfree.specs.Reached.{Follows, starts, hop}
use Rattle.loopfree.proofs.Invariant.{Holds, Any}
use Rattle.loopfree.proofs.Sound.{Home}

-- A successor is a neighbour whose copy puts the destination below the feasible distance.
successor_why : (u : Unit) (j k : ℕ) → is_successor u j k ≡ true
    → (at u.costs k ≢ 0) × (copied_distance u k j < at u.feasible j)
unfolding is_successor
successor_why u j k s =
    let p : (is_neighbour u k ≡ true) × (ltb (copied_distance u k j) (at u.feasible j) ≡ true) =
    both (is_neighbour u k) (ltb (copied_distance u k j) (at u.feasible j)) s in (
      eqb-false (at u.costs k) 0 (not-true (eqb (at u.costs k) 0) p.0),
      ltb-true (copied_distance u k j) (at u.feasible j) p.1,
    )

-- A place past a row's end holds 0.
in_row : (row : List ℕ) (k : ℕ) → at row k ≢ 0 → k < length row
in_row row k d = ⊎_elim (λ l. l) (λ l. absurd (d (get_or-eq_default row 0 l))) (less_or_not k (length row))

module _ (n : ℕ) (net : Network) (holds : Holds n Any net) (destination : ℕ) where
  -- The feasible distance of unit i; k is a successor of i.
  abbrev F : ℕ → ℕ
  F i = at (unit_at net i).feasible destination

  abbrev Successor : ℕ → ℕ → Type 0
  Successor i k = is_successor_in net i destination k ≡ true

  -- Only units have successors.
  has_unit : (i k : ℕ) → Successor i k → i < n
  unfolding fresh_unit
  has_unit i k s =
      ⊎_elim
      (λ l. l)
      (λ l. absurd (rw (get_or-eq_default net.units (fresh_unit 0 0) {n = i} (rw holds.shape.units_length l)) at
      (successor_why (unit_at net i) destination k s).0 refl))
      (less_or_not i n)

  -- Only units are successors.
  pub is_unit : (i k : ℕ) → Successor i k → k < n
  is_unit i k s =
      let home : Home n i (unit_at net i) = holds.home i (has_unit i k s) in
      rw (home.sound.links.costs_length ∙ home.counted) at
      (in_row (unit_at net i).costs k (successor_why (unit_at net i) destination k s).0)

  -- No unit is its own successor.
  is_other : (i k : ℕ) → Successor i k → k ≢ i
  is_other i k s e =
      let home : Home n i (unit_at net i) = holds.home i (has_unit i k s) in
      (successor_why (unit_at net i) destination k s).0
      (ap (at (unit_at net i).costs) (e ∙ sym home.named) ∙ home.sound.links.self)

  -- Feasible distances fall from a unit to its successor: the copy lies between the two.
  pub falls : (i k : ℕ) → Successor i k → F k < F i
  falls i k s =
      let hi : i < n = has_unit i k s in
      let below : distance n k (copy_of (unit_at net i).copies k) destination < F i =
      rw (holds.home i hi).counted at (successor_why (unit_at net i) destination k s).1 in
      omega (arith, (holds.lines k i (is_unit i k s) hi (is_other i k s)).lower destination)

  -- So they fall from the first unit of a path to each later one.
  falls_along : {i : ℕ} {rest : List ℕ} → Follows net destination (i ∷ rest) → Each (λ y. F y < F i) rest
  falls_along (starts h) = none
  falls_along (hop {i = i} {k = k} h s f) =
      let l : F k < F i = falls i k s in
      one l (each_map (λ y b. omega arith) (falls_along f))

  -- A path that follows successors meets no unit twice.
  pub distinct : {path : List ℕ} → Follows net destination path → Distinct path
  distinct (starts h) = apart none alone
  distinct (hop {i = i} h s f) =
      apart {x = i} (each_map (λ y l e. omega (arith, ap F e)) (falls_along (hop h s f))) (distinct f)

  -- Its units are units of the network.
  below : {path : List ℕ} → Follows net destination path → Below n path
  below (starts h) = one (rw holds.shape.counted at h) none
  below (hop h s f) = one (rw holds.shape.counted at h) (below f)

  -- So it has at most n units.
  pub few_units : {path : List ℕ} → Follows net destination path → length path ≤ n
  few_units f = pigeonhole n (distinct f) (below f)
