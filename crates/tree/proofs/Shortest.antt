-- What "shortest distances" stands for, as three facts: the root is at 0, no link offers less, and each finite distance
-- but the root's is offered by a link. The distances that specs/Shortest.antt computes have these facts, and no others
-- have them.
use Prim.Native.Nat.{ℕ, zero, suc, ◌-◌, ◌≤◌, ◌<◌, min}
use native.Mathlib.Nat.{lt-suc_self, le_refl, le_antisymm}
use native.Mathlib.Omega.{arith}
use mathlib.Core.List.{List}
use mathlib.Core.Logic.{◌≢◌, ⊎_elim}
use mathlib.Core.Path.{◌≡◌, refl, ap, ◌∙◌}
use lib.Dec.{eqb}
use borrow.Author.Tests.{eq-eqb, ne_eqb}
use Rattle.std.specs.Prelude.{if◌then◌else◌}
use Rattle.ground.specs.Limits.{far}
use Rattle.ground.specs.Rows.{at, least}
use Rattle.ground.proofs.Pigeonhole.{Many, many_one, many_more, many_most}
use Rattle.ground.proofs.Rows.{tab_at, least_le, least_attained}
use Rattle.ground.proofs.Tests.{if_true, if_false, equal_or_not, less_or_not}
use Rattle.tree.specs.Tree.{plus}
use Rattle.tree.specs.Shortest.{link, offer, shortest_within, shortest}

-- Every link between units below n costs at least 1.
pub record Links (n : ℕ) (links : List (List ℕ)) : Type 0 where
  pub positive : (i j : ℕ) → i < n → j < n → 1 ≤ link links i j

-- The root is at 0; no link offers less; each finite distance but the root's is offered; none is above unreachable.
pub record ShortestFacts (n root : ℕ) (links : List (List ℕ)) (d : ℕ → ℕ) : Type 0 where
  pub root_zero : d root ≡ 0
  pub none_less : (i j : ℕ) → i < n → j < n → d j ≤ plus (d i) (link links i j)
  pub offered : (j : ℕ) → j < n → j ≢ root → d j < far → (i : ℕ) × (i < n) × (plus (d i) (link links i j) ≡ d j)
  pub at_most_far : (j : ℕ) → j < n → d j ≤ far

-- Three cases: a unit is the root, or another at a finite distance x, or another that is unreachable.
pub by_unit {ℓ} : {A : Type ℓ} (root j x : ℕ) → (j ≡ root → A) → (j ≢ root → x < far → A) → (j ≢ root → far ≤ x → A) → A
by_unit root j x here near none =
    ⊎_elim here (λ r. ⊎_elim (near r) (none r) (less_or_not x far)) (equal_or_not j root)

module _ (n root : ℕ) (links : List (List ℕ)) (costs : Links n links) where
  -- Of two such distances none is above the other: by induction on the other, whose offer the first has too.
  not_above : (d e : ℕ → ℕ) → ShortestFacts n root links d → ShortestFacts n root links e
      → (bound j : ℕ) → j < n → d j < bound → e j ≤ d j
  not_above d e fd fe zero j h l = absurd (omega arith)
  not_above d e fd fe (suc bound) j h l =
      by_unit root j (d j)
      (λ r. omega (arith, ap d r, ap e r, fd.root_zero, fe.root_zero))
      (λ r f. near r f (not_above d e fd fe bound))
      (λ r f. omega (arith, fe.at_most_far j h))
    where
      near : j ≢ root → d j < far → ((i : ℕ) → i < n → d i < bound → e i ≤ d i) → e j ≤ d j
      near r f rest =
          let o : (i : ℕ) × (i < n) × (plus (d i) (link links i j) ≡ d j) = fd.offered j h r f in
          let p : 1 ≤ link links o.0 j = costs.positive o.0 j o.1 h in
          omega (arith, rest o.0 o.1 (omega arith), fe.none_less o.0 j o.1 h)

  -- The three facts have one solution.
  pub unique : (d e : ℕ → ℕ) → ShortestFacts n root links d → ShortestFacts n root links e → (j : ℕ) → j < n → d j ≡ e j
  unique d e fd fe j h =
      le_antisymm
      (not_above e d fe fd (suc (e j)) j h (lt-suc_self (e j)))
      (not_above d e fd fe (suc (d j)) j h (lt-suc_self (d j)))

-- The distance of unit j over at most m links.
abbrev pub within : (n root : ℕ) (links : List (List ℕ)) (m j : ℕ) → ℕ
within n root links m j = at (shortest_within n root links m) j

-- Over no link the root is at 0 and all else unreachable.
pub within_none : (n root : ℕ) (links : List (List ℕ)) (j : ℕ) → j < n
    → within n root links zero j ≡ (if eqb j root then 0 else far)
unfolding shortest_within
within_none n root links j h = tab_at n (λ i. if eqb i root then 0 else far) j 0 h

-- One link more: the lesser of what it was and the least offer.
pub within_more : (n root : ℕ) (links : List (List ℕ)) (m j : ℕ) → j < n
    → within n root links (suc m) j
    ≡ min (within n root links m j) (least n (λ i. offer links (shortest_within n root links m) i j))
unfolding shortest_within
within_more n root links m j h =
    tab_at n (λ k. min (within n root links m k) (least n (λ i. offer links (shortest_within n root links m) i k))) j 0 h

module _ (n root : ℕ) (links : List (List ℕ)) where
  -- The distance of unit j in round m, and what unit i offers to it after that round.
  abbrev D : ℕ → ℕ → ℕ
  D m j = within n root links m j

  abbrev O : ℕ → ℕ → ℕ → ℕ
  O m i j = plus (D m i) (link links i j)

  -- No distance grows.
  falls : (m j : ℕ) → j < n → D (suc m) j ≤ D m j
  falls m j h = omega (arith, within_more n root links m j h)

  -- A round takes every offer.
  takes : (m i j : ℕ) → i < n → j < n → D (suc m) j ≤ O m i j
  takes m i j hi hj =
      omega (arith, within_more n root links m j hj, least_le n (λ k. O m k j) i hi)

  -- A round that changes a distance takes an offer for it.
  taken : (m j : ℕ) → j < n → D m j ≤ far → D (suc m) j < D m j → (i : ℕ) × (i < n) × (O m i j ≡ D (suc m) j)
  taken m j h f c =
      let s : D (suc m) j ≡ min (D m j) (least n (λ i. O m i j)) = within_more n root links m j h in
      let a : (i : ℕ) × (i < n) × (O m i j ≡ least n (λ i. O m i j)) = least_attained n (λ i. O m i j) (omega arith) in
      (a.0, a.1, omega arith)

  -- At first the root is at 0 and every other unit unreachable.
  at_root : (j : ℕ) → j < n → j ≡ root → D zero j ≡ 0
  at_root j h e = within_none n root links j h ∙ if_true (eqb j root) 0 far (eq-eqb j root e)

  elsewhere : (j : ℕ) → j < n → j ≢ root → D zero j ≡ far
  elsewhere j h e = within_none n root links j h ∙ if_false (eqb j root) 0 far (ne_eqb j root e)

  -- No distance is above unreachable.
  up_to_far : (m j : ℕ) → j < n → D m j ≤ far
  up_to_far zero j h =
      ⊎_elim (λ e. omega (arith, at_root j h e)) (λ e. omega (arith, elsewhere j h e)) (equal_or_not j root)
  up_to_far (suc m) j h = omega (arith, falls m j h, up_to_far m j h)

  -- The root stays at 0.
  stays_zero : root < n → (m : ℕ) → D m root ≡ 0
  stays_zero h zero = at_root root h refl
  stays_zero h (suc m) = omega (arith, falls m root h, stays_zero h m)

  -- Unit j changes in round m; in round 0 the root does.
  abbrev Changed : ℕ → ℕ → Type 0
  Changed zero j = j ≡ root
  Changed (suc m) j = D (suc m) j < D m j

  -- Distinct units, one for each round up to m, none further than j.
  abbrev Chain : ℕ → ℕ → Type 0
  Chain m j = Many (λ u. (u < n) × (D m u ≤ D m j)) (suc m)

  -- The unit whose offer changes j in a round has changed in the round before.
  before : (m i j : ℕ) → i < n → j < n → O m i j ≡ D (suc m) j → D (suc m) j < D m j → Changed m i
  before zero i j hi hj e c =
      ⊎_elim (λ r. r) (λ r. absurd (omega (arith, elsewhere i hi r, up_to_far zero j hj))) (equal_or_not i root)
  before (suc m) i j hi hj e c =
      ⊎_elim
      (λ l. l)
      (λ l. absurd (omega (arith, takes m i j hi hj)))
      (less_or_not (D (suc m) i) (D m i))

  -- A unit further than the last lengthens the chain by one.
  longer : (m i j : ℕ) → j < n → Chain m i → D m i < D (suc m) j → D (suc m) j < D m j → Chain (suc m) j
  longer m i j h c near changed =
      many_more j c
      (λ u l e. omega (arith, ap (D m) e))
      (λ u l. (l.0, omega (arith, falls m u l.0)))
      (h, le_refl (D (suc m) j))

  -- A unit that changes in round m closes a chain of m + 1 distinct units.
  chain : Links n links → (m j : ℕ) → j < n → Changed m j → Chain m j
  chain costs zero j h c = many_one j (h, le_refl (D zero j))
  chain costs (suc m) j h c =
      let o : (i : ℕ) × (i < n) × (O m i j ≡ D (suc m) j) = taken m j h (up_to_far m j h) c in
      longer m o.0 j h (chain costs m o.0 o.1 (before m o.0 j o.1 h o.2 c))
      (omega (arith, costs.positive o.0 j o.1 h, up_to_far m j h)) c

  -- So none changes in round n.
  steady : Links n links → (m : ℕ) → suc m ≡ n → (j : ℕ) → j < n → D m j ≤ D (suc m) j
  steady costs m e j h =
      ⊎_elim
      (λ l. absurd (omega (arith, many_most n (λ u p. p.0) (chain costs (suc m) j h l))))
      (λ l. l)
      (less_or_not (D (suc m) j) (D m j))

  -- Each finite distance but the root's is at least what some unit offers.
  settled : (m j : ℕ) → j < n → j ≢ root → D m j < far → (i : ℕ) × (i < n) × (O m i j ≤ D m j)
  settled zero j h r f = absurd (omega (arith, elsewhere j h r))
  settled (suc m) j h r f =
      ⊎_elim new (λ l. old l (settled m j h r)) (less_or_not (D (suc m) j) (D m j))
    where
      new : D (suc m) j < D m j → (i : ℕ) × (i < n) × (O (suc m) i j ≤ D (suc m) j)
      new c =
          let o : (i : ℕ) × (i < n) × (O m i j ≡ D (suc m) j) = taken m j h (up_to_far m j h) c in
          (o.0, o.1, omega (arith, falls m o.0 o.1))

      old : D m j ≤ D (suc m) j → (D m j < far → (i : ℕ) × (i < n) × (O m i j ≤ D m j))
          → (i : ℕ) × (i < n) × (O (suc m) i j ≤ D (suc m) j)
      old c rest =
          let o : (i : ℕ) × (i < n) × (O m i j ≤ D m j) = rest (omega (arith, falls m j h)) in
          (o.0, o.1, omega (arith, falls m o.0 o.1))

  -- The computed distances have the three facts.
  pub shortest_facts : root < n → Links n links → ShortestFacts n root links (at (shortest n root links))
  shortest_facts h costs =
      record {
        root_zero = stays_zero h (n - 1);
        none_less = less;
        offered = offers;
        at_most_far = up_to_far (n - 1);
      }
    where
      less : (i j : ℕ) → i < n → j < n → D (n - 1) j ≤ O (n - 1) i j
      less i j hi hj = omega (arith, takes (n - 1) i j hi hj, steady costs (n - 1) (omega arith) j hj)

      offers : (j : ℕ) → j < n → j ≢ root → D (n - 1) j < far → (i : ℕ) × (i < n) × (O (n - 1) i j ≡ D (n - 1) j)
      offers j hj r f =
          let o : (i : ℕ) × (i < n) × (O (n - 1) i j ≤ D (n - 1) j) = settled (n - 1) j hj r f in
          (o.0, o.1, omega (arith, less o.0 j o.1 hj))
