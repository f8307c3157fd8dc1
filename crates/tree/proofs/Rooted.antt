-- What a row that passes the test for a tree has, that the empty row passes it, and how far a unit can be in a row.
use Prim.Native.Nat.{ℕ, zero, suc, ◌-◌, ◌≤◌}
use native.Mathlib.Omega.{arith}
use mathlib.Core.Bool.{true}
use mathlib.Core.List.{List}
use mathlib.Core.Logic.{◌⊎◌, inl, inr, ⊎_elim}
use mathlib.Core.Path.{◌≡◌}
use borrow.Author.Tests.{eqb-true, eq-eqb}
use lib.Dec.{eqb}
use lib.ListN.{length, length-replicate}
use Rattle.ground.specs.Limits.{unit_limit, far, longest}
use Rattle.ground.specs.Rows.{at, zeros, every}
use Rattle.ground.proofs.Lists.{at_zeros}
use Rattle.ground.proofs.Rows.{every_of}
use Rattle.ground.proofs.Tests.{both, both_of, either_left, equal_or_not, less_or_not}
use Rattle.tree.specs.Tree.{nothing, distance_within, distance, legal_entry, is_tree}
use Rattle.tree.proofs.Tree.{distance_root, distance_cut, distance_more, distance_none, distance_legal}

-- A tree has a place for each unit.
pub tree_length : (n root : ℕ) (tree : List ℕ) → is_tree n root tree ≡ true → length tree ≡ n
unfolding is_tree
tree_length n root tree t =
    eqb-true (length tree) n (both (eqb (length tree) n) (every n (legal_entry n root tree)) t).0

-- The empty row is a tree.
pub zeros_tree : (n root : ℕ) → is_tree n root (zeros n) ≡ true
unfolding is_tree
zeros_tree n root =
    both_of (eqb (length (zeros n)) n) _
    (eq-eqb _ n (length-replicate n 0))
    (every_of n (legal_entry n root (zeros n)) (λ j h. either_left _ _ (eq-eqb _ nothing (at_zeros n j))))

-- No distance is above unreachable.
pub within_far : (root : ℕ) (tree : List ℕ) (left j : ℕ) → distance_within root tree left j ≤ far
within_far root tree zero j =
    ⊎_elim
    (λ r. omega (arith, distance_root root tree zero j r))
    (λ r. omega (arith, distance_cut root tree j r))
    (equal_or_not j root)
within_far root tree (suc left) j =
    ⊎_elim
    (λ r. omega (arith, distance_root root tree (suc left) j r))
    (λ r. ⊎_elim
    (λ e. omega (arith, distance_none root tree (suc left) j r e))
    (λ e. omega (arith, distance_more root tree left j r e))
    (equal_or_not (at tree j) nothing))
    (equal_or_not j root)

-- "A distance is unreachable .. or at most 983,025."
abbrev pub LegalDistance : ℕ → Type 0
LegalDistance d = (d ≡ far) ⊎ (d ≤ longest)

-- Every distance in a row of at most the unit limit is.
pub distance_longest : (n root : ℕ) (tree : List ℕ) → n ≤ unit_limit → (j : ℕ) → LegalDistance (distance n root tree j)
distance_longest n root tree high j =
    ⊎_elim
    (λ f. inr (omega (arith, distance_legal n root tree j f)))
    (λ f. inl (omega (arith, within_far root tree (n - 1) j)))
    (less_or_not (distance n root tree j) far)
