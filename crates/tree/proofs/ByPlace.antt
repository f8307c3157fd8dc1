-- The recomputation reads its tables by place only: tables that hold the same at each place give the same.
use Prim.Native.Nat.{ℕ, zero, suc, ◌-◌, ◌<◌, min}
use native.Mathlib.Omega.{arith}
use mathlib.Core.Bool.{◌||◌}
use mathlib.Core.List.{List}
use mathlib.Core.Logic.{◌≢◌}
use mathlib.Core.Path.{◌≡◌, refl, sym, ap, ap₂, ◌∙◌}
use lib.Dec.{eqb, ltb}
use Rattle.std.specs.Prelude.{if◌then◌else◌}
use Rattle.ground.specs.Limits.{far}
use Rattle.ground.specs.Rows.{at, tab, least, lowest}
use Rattle.ground.proofs.Rows.{tab_ext, least_ext, lowest_ext}
use Rattle.tree.specs.Recompute.{copy_of, sum_through, preferred, copied_link, taken_links, tree_over}
use Rattle.tree.specs.Shortest.{link, offer, one_more, shortest_within, shortest}
use Rattle.tree.specs.Tree.{nothing, entry, plus}
use Rattle.tree.proofs.Cells.{preferred_cell, taken_cell}
use Rattle.tree.proofs.Shortest.{ShortestFacts}
use Rattle.tree.proofs.ShortestTree.{head_in, entry_in}

-- Two tables of rows hold the same at each place.
abbrev pub SameLinks : (a b : List (List ℕ)) → Type 0
SameLinks a b = (i j : ℕ) → link a i j ≡ link b i j

-- Two rows hold the same at each place.
abbrev pub SamePlaces : (xs ys : List ℕ) → Type 0
SamePlaces xs ys = (i : ℕ) → at xs i ≡ at ys i

-- They give the same preferred neighbours.
pub preferred_same : (n : ℕ) (costs : List ℕ) (a b : List (List ℕ)) → SameLinks a b → preferred n costs a ≡ preferred n costs b
unfolding preferred
preferred_same n costs a b e = tab_ext n (preferred_cell n costs a) (preferred_cell n costs b) each
  where
    sums : (j k : ℕ) → sum_through costs a k j ≡ sum_through costs b k j
    sums j k = ap (plus (at costs k)) (e k j)

    least_same : (j : ℕ) → least n (λ k. sum_through costs a k j) ≡ least n (λ k. sum_through costs b k j)
    least_same j = least_ext n (λ k. sum_through costs a k j) (λ k. sum_through costs b k j) (λ k h. sums j k)

    each : (j : ℕ) → j < n → preferred_cell n costs a j ≡ preferred_cell n costs b j
    each j h =
        ap₂ (λ (x l : ℕ). if ltb x far then l else n) (least_same j)
        (lowest_ext n
        (λ k. eqb (sum_through costs a k j) (least n (λ l. sum_through costs a l j)))
        (λ k. eqb (sum_through costs b k j) (least n (λ l. sum_through costs b l j)))
        (λ k l. ap₂ eqb (sums j k) (least_same j)))

-- They give the same taken links.
pub taken_same : (n me : ℕ) (costs : List ℕ) (copies : List (List ℕ)) (p q : List ℕ) → SamePlaces p q
    → taken_links n me costs copies p ≡ taken_links n me costs copies q
unfolding taken_links
taken_same n me costs copies p q e =
    tab_ext n (λ i. tab n (taken_cell n costs me copies p i)) (λ i. tab n (taken_cell n costs me copies q i)) (λ i h.
    ap (λ (x : ℕ).
    tab n (λ j.
    if eqb i me then (if eqb (at costs j) 0 then far else at costs j)
    else if eqb x n then far
    else copied_link (copy_of copies x) i j)) (e i))

-- The shortest distances over at most m links.
within_same : (n root : ℕ) (a b : List (List ℕ)) → SameLinks a b → (m : ℕ)
    → shortest_within n root a m ≡ shortest_within n root b m
unfolding shortest_within
within_same n root a b e zero = refl
within_same n root a b e (suc m) =
    ap (one_more n a) (within_same n root a b e m)
    ∙ tab_ext n
    (λ j. min (at d j) (least n (λ i. offer a d i j)))
    (λ j. min (at d j) (least n (λ i. offer b d i j)))
    (λ j h. ap (min (at d j))
    (least_ext n (λ i. offer a d i j) (λ i. offer b d i j) (λ i l. ap (plus (at d i)) (e i j))))
  where
    d : List ℕ
    d = shortest_within n root b m

-- So the distances over all links are the same.
pub shortest_same : (n root : ℕ) (a b : List (List ℕ)) → SameLinks a b → shortest n root a ≡ shortest n root b
shortest_same n root a b e = within_same n root a b e (n - 1)

-- They give the same tree over links and distances.
pub tree_over_same : (n me : ℕ) (a b : List (List ℕ)) (x y : List ℕ) → SameLinks a b → SamePlaces x y
    → tree_over n me a x ≡ tree_over n me b y
unfolding tree_over
tree_over_same n me a b x y e s = tab_ext n (entry_in n me a x) (entry_in n me b y) each
  where
    same_head : (j : ℕ) → lowest n (λ i. eqb (offer a x i j) (at x j)) ≡ lowest n (λ i. eqb (offer b y i j) (at y j))
    same_head j =
        lowest_ext n (λ i. eqb (offer a x i j) (at x j)) (λ i. eqb (offer b y i j) (at y j))
        (λ i h. ap₂ eqb (ap₂ plus (s i) (e i j)) (s j))

    each : (j : ℕ) → j < n → entry_in n me a x j ≡ entry_in n me b y j
    each j h =
        ap₂ (λ (v w : ℕ). if eqb j me || eqb v far then nothing else w) (s j)
        (ap₂ entry (same_head j) (e (head_in n a x j) j ∙ ap (λ (k : ℕ). link b k j) (same_head j)))

-- Distances that are the same have the same facts.
pub facts_same : (n root : ℕ) (links : List (List ℕ)) (d e : ℕ → ℕ) → ((i : ℕ) → d i ≡ e i)
    → ShortestFacts n root links d → ShortestFacts n root links e
facts_same n root links d e s f =
    record {
      root_zero = sym (s root) ∙ f.root_zero;
      none_less = λ i j hi hj. omega (arith, s i, s j, f.none_less i j hi hj);
      offered = offers;
      at_most_far = λ j h. omega (arith, s j, f.at_most_far j h);
    }
  where
    offers : (j : ℕ) → j < n → j ≢ root → e j < far → (i : ℕ) × (i < n) × (plus (e i) (link links i j) ≡ e j)
    offers j h r l =
        let o : (i : ℕ) × (i < n) × (plus (d i) (link links i j) ≡ d j) = f.offered j h r (omega (arith, s j)) in
        (o.0, o.1, omega (arith, s o.0, s j))
