-- What `ok_or` answers tells what it was asked of. And what chains answer that look for a number below a count, or count those that
-- pass a test: `lowest` and `total` of ground/specs/Rows.antt, by which contracts ask it.
use Prim.Native.Nat.{ℕ, zero, suc, ◌+◌, ◌≤◌, ◌<◌}
use native.Mathlib.Numerals.{add-one}
use native.Mathlib.Omega.{arith}
use mathlib.Core.Bool.{Bool}
use mathlib.Core.List.{map}
use mathlib.Core.Logic.{⊎_elim}
use mathlib.Core.Path.{◌≡◌, refl, sym, ap, ◌∙◌}
use denote.Param.Members.{Mut}
use denote.Ref.{Bor}
use lib.ListN.{length, get_or}
use Rattle.std.specs.Prelude.{Option, Some, None, Ok, Err, IfSome, unwrap_or, if◌then◌else◌}
use Rattle.std.specs.Fn.{CalledAt}
use Rattle.std.specs.Iterator.{FindsItem}
use Rattle.std.specs.List.{filter, count_by, sum_by, position_or_len, range_with_len, slice_get}
use Rattle.std.specs.Option.{ok_or, option_map}
use Rattle.std.specs.declared.ops.Range.{Range}
use Rattle.std.proofs.iter.Yields.{nat_range_steps}
use Rattle.std.proofs.lemmas.Iterator.{YieldsList-from_range}
use Rattle.std.proofs.lemmas.Iterator.Search.{find_from_yields_List}
use Rattle.std.proofs.lemmas.List.Folds.{find_at}
use Rattle.std.proofs.lemmas.List.FromFn.{fill_by_all, length-range_with_len, get_or-range_with_len, sum_by-map-range_with_len_more}
use Rattle.std.proofs.lemmas.List.Sums.{length-filter, position_or_len_is}
use Rattle.std.proofs.lemmas.Option.{none-some, slice_get-get_or, slice_get_past}
use Rattle.ground.specs.Rows.{lowest, total}
use Rattle.ground.proofs.Rows.{lowest_le, lowest_first, lowest_holds}
use Rattle.ground.proofs.Tests.{less_or_not}

module _ {A E : Type 0} where
  pub ok_or_ok : (o : Option A) (e : E) (x : A) → Ok x ≡ ok_or o e → Some x ≡ o
  ok_or_ok (Some y) e x q = cc
  ok_or_ok None e x q = cc

  pub ok_or_err : (o : Option A) (e d : E) → Err d ≡ ok_or o e → (d ≡ e) × (None ≡ o)
  ok_or_err (Some y) e d q = (cc, cc)
  ok_or_err None e d q = (cc, refl)

-- The numbers below n: each stands at its own place.
number_at : (n k : ℕ) → k < n → get_or (range_with_len 0 n) k 0 ≡ k
number_at n k l = omega (arith, get_or-range_with_len 0 n k 0 l)

-- The first of the numbers below n that passes is the lowest.
first_below : (p : ℕ → Bool) (n : ℕ) → position_or_len p (range_with_len 0 n) ≡ lowest n p
first_below p n =
    let range = range_with_len 0 n in
    let long : length range ≡ n = length-range_with_len 0 n in
    position_or_len_is p range (lowest n p) 0
    (omega (arith, lowest_le n p))
    (λ k l. ap p (number_at n k (omega (arith, lowest_le n p))) ∙ lowest_first n p k l)
    (λ l. ap p (number_at n (lowest n p) (omega arith)) ∙ lowest_holds n p (omega arith))

-- What is found is the number, or there is none.
found_one : (r : Option ℕ) (k n : ℕ) → option_map (λ x. x) r ≡ Some k → k < n → (unwrap_or r n ≡ k) × IfSome r (λ i. i < n)
found_one (Some x) k n e l = let same : x ≡ k = cc in (same, omega arith)
found_one None k n e l = absurd (none-some k e)

found_none : (r : Option ℕ) (k n : ℕ) → option_map (λ x. x) r ≡ None → n ≤ k → k ≤ n
    → (unwrap_or r n ≡ k) × IfSome r (λ i. i < n)
found_none (Some x) k n e h l = absurd (none-some x (sym e))
found_none None k n e h l = (omega arith, tt)

-- `(0..n).find(..)`.
pub find_below : {F : Type 0} {g : Mut F (Bor ℕ × Unit {0}) Bool} (p : ℕ → Bool) (n : ℕ) (u : Range ℕ) (f : F) (r : Option ℕ)
    → FindsItem nat_range_steps g (record { start = 0; end = n }) f r u
    → ((x : ℕ) (b : Bool) (q : F) → CalledAt g f x b q → (q ≡ f) × (b ≡ p x))
    → (unwrap_or r n ≡ lowest n p) × IfSome r (λ k. k < n)
find_below p n u f r ran test =
    let range = range_with_len 0 n in
    let found : option_map (λ x. x) r ≡ slice_get range (lowest n p) =
    find_from_yields_List p u f r ran (YieldsList-from_range 0 n n refl (omega arith)) test
    ∙ find_at p range
    ∙ ap (slice_get range) (first_below p n) in
    ⊎_elim
    (λ l.
    found_one r (lowest n p) n
    (found
    ∙ slice_get-get_or range (lowest n p) 0 (omega (arith, length-range_with_len 0 n))
    ∙ ap Some (number_at n (lowest n p) l)) l)
    (λ h.
    found_none r (lowest n p) n
    (found ∙ slice_get_past range (lowest n p) (omega (arith, length-range_with_len 0 n))) h (lowest_le n p))
    (less_or_not (lowest n p) n)

-- How many of the numbers below n pass, as a sum.
total_below : (g f : ℕ → ℕ) (n : ℕ) → sum_by g (map f (range_with_len 0 n)) ≡ total n (λ i. g (f i))
total_below g f zero = refl
total_below g f (suc n) =
    ap (λ (k : ℕ). sum_by g (map f (range_with_len 0 k))) (sym (add-one n))
    ∙ sum_by-map-range_with_len_more g f 0 n n (omega arith)
    ∙ ap (λ (k : ℕ). k + g (f n)) (total_below g f n)

-- `(0..n).filter(..).count()`.
pub count_below : (p : ℕ → Bool) (n : ℕ) → length (filter p (range_with_len 0 n)) ≡ total n (λ i. if p i then 1 else 0)
count_below p n =
    let range = range_with_len 0 n in
    length-filter p range
    ∙ ap (count_by p)
    (fill_by_all (λ (i : ℕ). i) range n 0 (length-range_with_len 0 n) (number_at n))
    ∙ total_below (λ i. if p i then 1 else 0) (λ i. i) n
