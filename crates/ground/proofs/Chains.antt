-- What chains answer that ask a test of the numbers below a count, or of a slice's elements: `every` and `lowest` of
-- specs/Rows.antt, by which contracts ask it. Each law takes the call's clause `ran`, and that the closure answers the test.
use Prim.Native.Nat.{ℕ, zero, suc, ◌≤◌}
use native.Mathlib.Omega.{arith}
use mathlib.Core.Bool.{Bool, cond, ◌&&◌}
use mathlib.Core.List.{List, [], ◌∷◌}
use mathlib.Core.Logic.{⊎_elim}
use mathlib.Core.Path.{◌≡◌, refl, sym, ap, ap₂, ◌∙◌}
use borrow.Author.Tests.{lt-ltb, le-ltb}
use denote.Param.Members.{Mut}
use denote.Ref.{Bor}
use lib.Dec.{ltb}
use lib.ListN.{length}
use Rattle.std.specs.Fn.{Called}
use Rattle.std.specs.Iterator.{ChecksAll, FindsPosition}
use Rattle.std.specs.List.{list_all, position_or_len, range_with_len}
use Rattle.std.specs.Option.{unwrap_or}
use Rattle.std.specs.declared.option.Option.{Option}
use Rattle.std.specs.declared.option.Option.TheVariants.{None, Some}
use Rattle.std.specs.declared.ops.Range.{Range}
use Rattle.std.specs.Slice.Iter.{iter_rest}
use Rattle.std.proofs.Common.{Iter}
use Rattle.std.proofs.iter.Yields.{fronts, nat_range_steps}
use Rattle.std.proofs.Math.Bool.{and-true}
use Rattle.std.proofs.lemmas.Iterator.{YieldsList-from_range, YieldsList-from_slice}
use Rattle.std.proofs.lemmas.Iterator.Search.{all_from_yields_List, position_from_yields_List}
use Rattle.std.proofs.lemmas.List.Folds.{list_all-append, list_all-map}
use Rattle.std.proofs.lemmas.List.FromFn.{fill_by_all}
use Rattle.std.proofs.lemmas.List.Sums.{position_or_len_is}
use Rattle.ground.specs.Rows.{at, tab, every, lowest}
use Rattle.ground.proofs.Rows.{length_tab, tab_at, tab_row, lowest_le, lowest_first, lowest_holds}
use Rattle.ground.proofs.Tests.{less_or_not}

-- A test of all that a function gives below n.
every_tab : {A : Type 0} (p : A → Bool) (n : ℕ) (f : ℕ → A) → list_all p (tab n f) ≡ every n (λ i. p (f i))
every_tab p zero f = refl
every_tab p (suc n) f =
    list_all-append p (tab n f) (f n ∷ []) ∙ ap₂ ◌&&◌ (every_tab p n f) (and-true (p (f n)))

-- A test of all numbers below n.
pub every_below : (p : ℕ → Bool) (n : ℕ) → list_all p (range_with_len 0 n) ≡ every n p
every_below p n =
    sym (list_all-map p (λ (i : ℕ). i) (range_with_len 0 n))
    ∙ sym (ap (list_all p) (fill_by_all (λ (i : ℕ). i) (tab n (λ i. i)) n 0 (length_tab n (λ i. i)) (λ k l. tab_at n (λ i. i) k 0 l)))
    ∙ every_tab p n (λ i. i)

-- A test of all numbers of a list.
pub every_number : (p : ℕ → Bool) (xs : List ℕ) → list_all p xs ≡ every (length xs) (λ i. p (at xs i))
every_number p xs = ap (list_all p) (sym (tab_row (length xs) xs 0 refl)) ∙ every_tab p (length xs) (at xs)

-- `(0..n).all(..)`.
pub all_below : {F : Type 0} {g : Mut F (ℕ × Unit {0}) Bool} (p : ℕ → Bool) (n : ℕ) (u : Range ℕ) (f : F) (r : Bool)
    → ChecksAll nat_range_steps g (record { start = 0; end = n }) f r u
    → ((x : ℕ) (b : Bool) (q : F) → Called g f (x, tt) b q → (q ≡ f) × (b ≡ p x))
    → r ≡ every n p
all_below p n u f r ran test =
    all_from_yields_List p u f r ran (YieldsList-from_range 0 n n refl (omega arith)) test ∙ every_below p n

-- `xs.iter().all(..)`.
pub all_numbers : {F : Type 0} {g : Mut F (Bor ℕ × Unit {0}) Bool} (p : ℕ → Bool) (xs : List ℕ) {s : Iter ℕ} (u : Iter ℕ) (f : F) (r : Bool)
    → ChecksAll fronts g s f r u → iter_rest s ≡ xs
    → ((x : Bor ℕ) (b : Bool) (q : F) → Called g f (x, tt) b q → (q ≡ f) × (b ≡ p x.now))
    → r ≡ every (length xs) (λ i. p (at xs i))
all_numbers p xs u f r ran e test =
    all_from_yields_List p u f r ran (YieldsList-from_slice xs e) test ∙ every_number p xs

-- The first place of a list that passes, or its length.
first_number : (p : ℕ → Bool) (xs : List ℕ) → position_or_len p xs ≡ lowest (length xs) (λ i. p (at xs i))
first_number p xs =
    position_or_len_is p xs _ 0 (lowest_le (length xs) _) (lowest_first (length xs) _) (lowest_holds (length xs) _)

-- A place of at most n, said where it is below n, and n else, is the place.
or_end : (k n : ℕ) → k ≤ n → unwrap_or (cond (ltb k n) (Some k) None) n ≡ k
or_end k n h = ⊎_elim (λ l. rw (lt-ltb k n l) refl) (λ l. rw (le-ltb k n l) (omega arith)) (less_or_not k n)

-- `xs.iter().position(..).unwrap_or(xs.len())`.
pub position_or_end : {F : Type 0} {g : Mut F (Bor ℕ × Unit {0}) Bool} (p : ℕ → Bool) (xs : List ℕ) {s : Iter ℕ} (u : Iter ℕ) (f : F) (r : Option ℕ)
    → FindsPosition fronts g s f r u → iter_rest s ≡ xs
    → ((x : Bor ℕ) (b : Bool) (q : F) → Called g f (x, tt) b q → (q ≡ f) × (b ≡ p x.now))
    → unwrap_or r (length xs) ≡ lowest (length xs) (λ i. p (at xs i))
position_or_end p xs u f r ran e test =
    ap (λ o. unwrap_or o (length xs)) (position_from_yields_List p u f r ran (YieldsList-from_slice xs e) test)
    ∙ ap (λ (k : ℕ). unwrap_or (cond (ltb k (length xs)) (Some k) None) (length xs)) (first_number p xs)
    ∙ or_end _ (length xs) (lowest_le (length xs) _)
