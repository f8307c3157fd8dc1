-- Distances in a tree: what following heads gives at each unit, that a finite distance is at most the count less one
-- times the highest cost, and that distances that fit a row are its own and make it a tree.
use Prim.Native.Nat.{ℕ, zero, suc, ◌+◌, ◌-◌, ◌*◌, ◌≤◌, ◌<◌}
use native.Mathlib.Nat.{le_refl}
use native.Mathlib.Omega.{arith}
use mathlib.Core.Bool.{true, not}
use mathlib.Core.List.{List}
use mathlib.Core.Logic.{◌≢◌, ◌⊎◌, inl, inr, ⊎_elim}
use mathlib.Core.Path.{◌≡◌, refl, sym, ap, ◌∙◌}
use lib.Dec.{eqb, ltb, leb}
use lib.ListN.{length}
use borrow.Author.Tests.{lt-ltb, le-leb, eq-eqb, ne_eqb}
use Rattle.ground.specs.Limits.{far, highest_cost}
use Rattle.ground.specs.Rows.{at}
use Rattle.ground.proofs.Pigeonhole.{Many, many_one, many_more, many_most}
use Rattle.ground.proofs.Rows.{every_of}
use Rattle.ground.proofs.Tests.{if_true, if_false, equal_or_not, both_of, either_left, either_right, not_of_false}
use Rattle.tree.specs.Tree.{nothing, entry, head_of, cost_of, plus, distance_within, distance, legal_entry, is_tree}
use Rattle.tree.proofs.Shortest.{by_unit}

-- The head and the cost that a tree gives to unit j.
abbrev pub head_at : (tree : List ℕ) (j : ℕ) → ℕ
head_at tree j = head_of (at tree j)

abbrev pub cost_at : (tree : List ℕ) (j : ℕ) → ℕ
cost_at tree j = cost_of (at tree j)

-- An entry gives its head back.
pub head_entry : (head cost : ℕ) → cost ≤ highest_cost → head_of (entry head cost) ≡ head
head_entry head cost h = omega arith

-- An entry gives its cost back.
pub cost_entry : (head cost : ℕ) → cost ≤ highest_cost → cost_of (entry head cost) ≡ cost
cost_entry head cost h = omega arith

module _ (root : ℕ) (tree : List ℕ) where
  -- The root is at 0.
  pub distance_root : (left j : ℕ) → j ≡ root → distance_within root tree left j ≡ 0
  unfolding distance_within
  distance_root zero j e = if_true (eqb j root) 0 far (eq-eqb j root e)
  distance_root (suc left) j e = if_true (eqb j root) 0 _ (eq-eqb j root e)

  -- Any other unit is unreachable where no link is left.
  pub distance_cut : (j : ℕ) → j ≢ root → distance_within root tree zero j ≡ far
  unfolding distance_within
  distance_cut j r = if_false (eqb j root) 0 far (ne_eqb j root r)

  -- A unit other than the root that has an entry is one link further than its head.
  pub distance_more : (left j : ℕ) → j ≢ root → at tree j ≢ nothing
      → distance_within root tree (suc left) j ≡ plus (cost_at tree j) (distance_within root tree left (head_at tree j))
  unfolding distance_within
  distance_more left j r e =
      if_false (eqb j root) 0 _ (ne_eqb j root r)
      ∙ if_false (eqb (at tree j) nothing) far _ (ne_eqb (at tree j) nothing e)

  -- A unit other than the root that has no entry is unreachable.
  pub distance_none : (left j : ℕ) → j ≢ root → at tree j ≡ nothing → distance_within root tree left j ≡ far
  unfolding distance_within
  distance_none zero j r e = distance_cut j r
  distance_none (suc left) j r e =
      if_false (eqb j root) 0 _ (ne_eqb j root r)
      ∙ if_true (eqb (at tree j) nothing) far _ (eq-eqb (at tree j) nothing e)

  -- A finite distance over at most `left` links is at most so many times the highest cost.
  pub within_legal : (left j : ℕ) → distance_within root tree left j < far
      → distance_within root tree left j ≤ left * highest_cost
  within_legal zero j f =
      ⊎_elim
      (λ r. omega (arith, distance_root zero j r))
      (λ r. absurd (omega (arith, distance_cut j r)))
      (equal_or_not j root)
  within_legal (suc left) j f =
      ⊎_elim
      (λ r. omega (arith, distance_root (suc left) j r))
      (λ r. ⊎_elim (none r) (λ e. more r e (within_legal left (head_at tree j))) (equal_or_not (at tree j) nothing))
      (equal_or_not j root)
    where
      none : j ≢ root → at tree j ≡ nothing → distance_within root tree (suc left) j ≤ suc left * highest_cost
      none r e = absurd (omega (arith, distance_none (suc left) j r e))

      more : j ≢ root → at tree j ≢ nothing
          → (distance_within root tree left (head_at tree j) < far
          → distance_within root tree left (head_at tree j) ≤ left * highest_cost)
          → distance_within root tree (suc left) j ≤ suc left * highest_cost
      more r e rest =
          let rest' : distance_within root tree left (head_at tree j) ≤ left * highest_cost =
          rest (omega (arith, distance_more left j r e)) in
          omega (arith, distance_more left j r e)

-- A finite distance in a tree of n units is at most n - 1 times the highest cost.
pub distance_legal : (n root : ℕ) (tree : List ℕ) (j : ℕ) → distance n root tree j < far
    → distance n root tree j ≤ (n - 1) * highest_cost
distance_legal n root tree j f = within_legal root tree (n - 1) j f

-- The entry of unit j, a legal head and a cost of at least 1, adds up to its distance.
pub record Headed (n : ℕ) (tree : List ℕ) (d : ℕ → ℕ) (j : ℕ) : Type 0 where
  pub present : at tree j ≢ nothing
  pub head_below : head_at tree j < n
  pub cost_positive : 1 ≤ cost_at tree j
  pub adds_up : cost_at tree j + d (head_at tree j) ≡ d j

-- An entry that is known by its head and its cost.
pub headed_of : (n : ℕ) (tree : List ℕ) (d : ℕ → ℕ) (j head cost : ℕ) → at tree j ≡ entry head cost
    → head < n → 1 ≤ cost → cost ≤ highest_cost → cost + d head ≡ d j → Headed n tree d j
headed_of n tree d j head cost e h p l s =
    let eh : head_at tree j ≡ head = ap head_of e ∙ head_entry head cost l in
    let ec : cost_at tree j ≡ cost = ap cost_of e ∙ cost_entry head cost l in
    record {
      present = omega arith;
      head_below = omega arith;
      cost_positive = omega arith;
      adds_up = omega (arith, ap d eh);
    }

-- Distances that fit a tree: the root is at 0 and has no entry, a unit at a finite distance has an entry that adds up,
-- and any other has none.
pub record TreeFacts (n root : ℕ) (tree : List ℕ) (d : ℕ → ℕ) : Type 0 where
  pub places : length tree ≡ n
  pub root_zero : d root ≡ 0
  pub root_empty : at tree root ≡ nothing
  pub headed : (j : ℕ) → j < n → j ≢ root → d j < far → Headed n tree d j
  pub empty : (j : ℕ) → j < n → j ≢ root → far ≤ d j → (d j ≡ far) × (at tree j ≡ nothing)

module _ (n root : ℕ) (tree : List ℕ) (d : ℕ → ℕ) (facts : TreeFacts n root tree d) where
  -- Units no further than j.
  abbrev Nearer : ℕ → ℕ → Type 0
  Nearer j u = (u < n) × (d u ≤ d j)

  -- A unit that is further lengthens a list of distinct units by one.
  nearer_more : {k : ℕ} (i j : ℕ) → j < n → d i < d j → Many (Nearer i) k → Many (Nearer j) (suc k)
  nearer_more i j h l m =
      many_more j m (λ u p e. omega (arith, ap d e)) (λ u p. (p.0, omega arith)) (h, le_refl (d j))

  -- The root's distance is found.
  at_root : (left j : ℕ) → j ≡ root → distance_within root tree left j ≡ d j
  at_root left j r = distance_root root tree left j r ∙ sym (ap d r ∙ facts.root_zero)

  -- Where the head's distance is found, so is that of unit j.
  beyond : (left j : ℕ) → j ≢ root → d j < far → Headed n tree d j
      → distance_within root tree left (head_at tree j) ≡ d (head_at tree j)
      → distance_within root tree (suc left) j ≡ d j
  beyond left j r f e q = omega (arith, distance_more root tree left j r e.present)

  -- Following heads from j finds its distance, or there are more distinct units than links left.
  follow : (left j : ℕ) → j < n → d j < far → (distance_within root tree left j ≡ d j) ⊎ Many (Nearer j) (suc (suc left))
  follow zero j h f =
      ⊎_elim (λ r. inl (at_root zero j r)) (λ r. inr (two (facts.headed j h r f))) (equal_or_not j root)
    where
      two : Headed n tree d j → Many (Nearer j) 2
      two e =
          nearer_more (head_at tree j) j h (omega arith)
          (many_one (head_at tree j) (e.head_below, le_refl (d (head_at tree j))))
  follow (suc left) j h f =
      ⊎_elim
      (λ r. inl (at_root (suc left) j r))
      (λ r. step r (facts.headed j h r f) (follow left (head_at tree j)))
      (equal_or_not j root)
    where
      i : ℕ
      i = head_at tree j

      step : j ≢ root → Headed n tree d j
          → (i < n → d i < far → (distance_within root tree left i ≡ d i) ⊎ Many (Nearer i) (suc (suc left)))
          → (distance_within root tree (suc left) j ≡ d j) ⊎ Many (Nearer j) (suc (suc (suc left)))
      step r e rest =
          ⊎_elim
          (λ q. inl (beyond left j r f e q))
          (λ m. inr (nearer_more i j h (omega arith) m))
          (rest e.head_below (omega arith))

  -- Distances that fit a tree are its own distances.
  pub fits_distance : (j : ℕ) → j < n → distance n root tree j ≡ d j
  fits_distance j h =
      by_unit root j (d j)
      (λ r. at_root (n - 1) j r)
      (λ r f. near (follow (n - 1) j h f))
      (λ r f. distance_none root tree (n - 1) j r (facts.empty j h r f).1 ∙ sym (facts.empty j h r f).0)
    where
      near : (distance n root tree j ≡ d j) ⊎ Many (Nearer j) (suc (suc (n - 1))) → distance n root tree j ≡ d j
      near (inl e) = e
      near (inr m) = absurd (omega (arith, many_most n (λ u p. p.0) m))

  -- An entry that adds up is legal.
  legal : (j : ℕ) → j < n → j ≢ root → d j < far → Headed n tree d j → legal_entry n root tree j ≡ true
  legal j h r f e =
      let other : not (eqb j root) ≡ true = not_of_false (eqb j root) (ne_eqb j root r) in
      let head : ltb (head_at tree j) n ≡ true = lt-ltb (head_at tree j) n e.head_below in
      let cost : leb 1 (cost_at tree j) ≡ true = le-leb 1 (cost_at tree j) e.cost_positive in
      let near : ltb (distance n root tree j) far ≡ true = rw (fits_distance j h) (lt-ltb (d j) far f) in
      rw (other, head, cost, near) (either_right (eqb (at tree j) nothing) true refl)

  -- No entry is legal too.
  legal_none : (j : ℕ) → at tree j ≡ nothing → legal_entry n root tree j ≡ true
  legal_none j e = either_left (eqb (at tree j) nothing) _ (eq-eqb (at tree j) nothing e)

  -- A row that distances fit is a tree.
  pub fits_tree : is_tree n root tree ≡ true
  unfolding is_tree
  fits_tree =
      both_of (eqb (length tree) n) _
      (eq-eqb (length tree) n facts.places)
      (every_of n (legal_entry n root tree) each)
    where
      each : (j : ℕ) → j < n → legal_entry n root tree j ≡ true
      each j h =
          by_unit root j (d j)
          (λ r. legal_none j (ap (at tree) r ∙ facts.root_empty))
          (λ r f. legal j h r f (facts.headed j h r f))
          (λ r f. legal_none j (facts.empty j h r f).1)
