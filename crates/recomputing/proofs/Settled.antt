-- Settling units one by one, nearest first, gives the shortest distances: what holds after each turn, that relaxing from
-- the nearest unit keeps it, and that once all units are settled the distances have the three facts.
use Prim.Native.Nat.{ℕ, suc, ◌+◌, ◌≤◌, ◌<◌, min}
use native.Mathlib.Numerals.{add-one}
use native.Mathlib.Omega.{arith}
use mathlib.Core.Bool.{Bool, true, false}
use mathlib.Core.List.{List}
use mathlib.Core.Logic.{◌≢◌, ◌⊎◌, inl, inr, ⊎_elim}
use mathlib.Core.Path.{◌≡◌, sym, ap, ◌∙◌}
use Rattle.ground.specs.Limits.{far}
use Rattle.tree.specs.Shortest.{link}
use Rattle.tree.specs.Tree.{plus}
use Rattle.ground.proofs.Pigeonhole.{Many, many_none, many_more, many_most}
use Rattle.ground.proofs.Tests.{not_both, yes_or_no, equal_or_not, less_or_not}
use Rattle.tree.proofs.Shortest.{ShortestFacts}

-- All units are settled.
abbrev All : (n : ℕ) (t : ℕ → Bool) → Type 0
All n t = (j : ℕ) → j < n → t j ≡ true

module _ (n root : ℕ) (links : List (List ℕ)) where
  -- No settled unit offers less; none is further than one that isn't settled; each finite distance is offered by a settled
  -- unit; and as many units are settled as turns were made, or all.
  pub record Settling (d : ℕ → ℕ) (t : ℕ → Bool) (turns : ℕ) : Type 0 where
    pub root_zero : d root ≡ 0
    pub at_most_far : (j : ℕ) → j < n → d j ≤ far
    pub none_less : (i j : ℕ) → i < n → j < n → t i ≡ true → d j ≤ plus (d i) (link links i j)
    pub nearer : (i j : ℕ) → i < n → j < n → t i ≡ true → t j ≡ false → d i ≤ d j
    pub offered : (j : ℕ) → j < n → j ≢ root → d j < far
        → (i : ℕ) × (i < n) × (t i ≡ true) × (plus (d i) (link links i j) ≡ d j)
    pub many : All n t ⊎ Many (λ u. (u < n) × (t u ≡ true)) turns

  -- At first none is settled, the root is at 0 and all else unreachable.
  pub settling_none : (d : ℕ → ℕ) (t : ℕ → Bool) → d root ≡ 0 → ((j : ℕ) → j < n → j ≢ root → d j ≡ far)
      → ((j : ℕ) → t j ≡ false) → root < n → Settling d t 0
  settling_none d t z f none h =
      record {
        root_zero = z;
        at_most_far = λ j l. ⊎_elim (λ e. omega (arith, ap d e)) (λ e. omega (arith, f j l e)) (equal_or_not j root);
        none_less = λ i j hi hj e. absurd (not_both (t i) e (none i));
        nearer = λ i j hi hj e. absurd (not_both (t i) e (none i));
        offered = λ j l r b. absurd (omega (arith, f j l r));
        many = inr many_none;
      }

  -- Where all are settled one turn more changes nothing.
  pub settling_all : (d : ℕ → ℕ) (t : ℕ → Bool) (turns : ℕ) → Settling d t turns → All n t → Settling d t (turns + 1)
  settling_all d t turns s all =
      record {
        root_zero = s.root_zero;
        at_most_far = s.at_most_far;
        none_less = s.none_less;
        nearer = s.nearer;
        offered = s.offered;
        many = inl all;
      }

  -- A turn: unit i is the nearest that isn't settled, it is settled, and what it offers is taken.
  module _ (d e : ℕ → ℕ) (t u : ℕ → Bool) (turns i : ℕ) (s : Settling d t turns) (here : i < n)
      (yet : t i ≡ false) (least : (j : ℕ) → j < n → t j ≡ false → d i ≤ d j)
      (relaxed : (j : ℕ) → j < n → e j ≡ min (d j) (plus (d i) (link links i j)))
      (new : u i ≡ true) (kept : (j : ℕ) → j ≢ i → u j ≡ t j) (inside : root < n) where
    -- What is settled now is i or was settled before.
    now : (j : ℕ) → u j ≡ true → (j ≡ i) ⊎ (t j ≡ true)
    now j q = ⊎_elim inl (λ r. inr (sym (kept j r) ∙ q)) (equal_or_not j i)

    -- What isn't settled now was not before.
    yet_not : (j : ℕ) → u j ≡ false → t j ≡ false
    yet_not j q =
        ⊎_elim (λ r. absurd (not_both (u j) (ap u r ∙ new) q)) (λ r. sym (kept j r) ∙ q) (equal_or_not j i)

    -- What was settled before is settled now.
    before : (j : ℕ) → t j ≡ true → u j ≡ true
    before j q = ⊎_elim (λ r. ap u r ∙ new) (λ r. kept j r ∙ q) (equal_or_not j i)

    -- The distance of a unit that was settled stays, and so does that of i.
    stays : (j : ℕ) → j < n → u j ≡ true → e j ≡ d j
    stays j h q =
        ⊎_elim
        (λ r. omega (arith, relaxed j h, ap d r, s.at_most_far j h))
        (λ r. omega (arith, relaxed j h, s.nearer j i h here r yet, s.at_most_far i here))
        (now j q)

    -- No settled unit offers less.
    none_less' : (k j : ℕ) → k < n → j < n → u k ≡ true → e j ≤ plus (e k) (link links k j)
    none_less' k j hk hj q =
        ⊎_elim
        (λ r. omega (arith, relaxed j hj, stays k hk q, ap d r, ap (λ (x : ℕ). link links x j) r))
        (λ r. omega (arith, relaxed j hj, stays k hk q, s.none_less k j hk hj r))
        (now k q)

    -- No settled unit is further than one that isn't.
    nearer' : (k j : ℕ) → k < n → j < n → u k ≡ true → u j ≡ false → e k ≤ e j
    nearer' k j hk hj q r =
        ⊎_elim
        (λ z. omega (arith, relaxed j hj, stays k hk q, ap d z, least j hj (yet_not j r), s.at_most_far i here))
        (λ z. omega (arith, relaxed j hj, stays k hk q, s.nearer k j hk hj z (yet_not j r), s.nearer k i hk here z yet, s.at_most_far i here))
        (now k q)

    -- Each finite distance is offered.
    offered' : (j : ℕ) → j < n → j ≢ root → e j < far
        → (k : ℕ) × (k < n) × (u k ≡ true) × (plus (e k) (link links k j) ≡ e j)
    offered' j h r f =
        ⊎_elim
        (λ l. (i, here, new, omega (arith, relaxed j h, stays i here new)))
        (λ l. old l)
        (less_or_not (plus (d i) (link links i j)) (d j))
      where
        old : d j ≤ plus (d i) (link links i j) → (k : ℕ) × (k < n) × (u k ≡ true) × (plus (e k) (link links k j) ≡ e j)
        old l =
            let o : (k : ℕ) × (k < n) × (t k ≡ true) × (plus (d k) (link links k j) ≡ d j) =
            s.offered j h r (omega (arith, relaxed j h)) in
            (o.0, o.1, before o.0 o.2, omega (arith, relaxed j h, stays o.0 o.1 (before o.0 o.2)))

    -- One unit more is settled.
    many' : All n u ⊎ Many (λ k. (k < n) × (u k ≡ true)) (turns + 1)
    many' =
        ⊎_elim
        (λ all. absurd (not_both (t i) (all i here) yet))
        (λ m. inr (rw (add-one turns) (many_more {P = λ k. (k < n) × (t k ≡ true)} i m
        (λ k p q. not_both (t k) p.1 (ap t (sym q) ∙ yet))
        (λ k p. (p.0, before k p.1))
        (here, new))))
        s.many

    -- What holds stays true.
    pub settling_more : Settling e u (turns + 1)
    settling_more =
        record {
          root_zero = omega (arith, relaxed root inside, s.root_zero);
          at_most_far = λ j h. omega (arith, relaxed j h, s.at_most_far j h);
          none_less = none_less';
          nearer = nearer';
          offered = offered';
          many = many';
        }

  -- After as many turns as units all are settled.
  all_settled : (d : ℕ → ℕ) (t : ℕ → Bool) → Settling d t n → All n t
  all_settled d t s j h =
      ⊎_elim
      (λ all. all j h)
      (λ m. ⊎_elim (λ q. q) (λ q. absurd (omega (arith, one_more m q))) (yes_or_no (t j)))
      s.many
    where
      one_more : Many (λ u. (u < n) × (t u ≡ true)) n → t j ≡ false → suc n ≤ n
      one_more m q =
          many_most n (λ u p. p)
          (many_more {P = λ u. (u < n) × (t u ≡ true)} {Q = λ u. u < n} j m (λ k p e. not_both (t k) p.1 (ap t (sym e) ∙ q)) (λ k p. p.0) h)

  -- So the distances have the three facts.
  pub settled_facts : (d : ℕ → ℕ) (t : ℕ → Bool) → Settling d t n → ShortestFacts n root links d
  settled_facts d t s =
      record {
        root_zero = s.root_zero;
        none_less = λ i j hi hj. s.none_less i j hi hj (all_settled d t s i hi);
        offered = λ j h r f.
            let o : (i : ℕ) × (i < n) × (t i ≡ true) × (plus (d i) (link links i j) ≡ d j) = s.offered j h r f in
            (o.0, o.1, o.3);
        at_most_far = s.at_most_far;
      }
