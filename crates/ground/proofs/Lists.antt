-- Laws on lists that the library lacks: images of rows, parts, lists filled up with zeros, lists of numbers below a bound,
-- and lists laid one after the other in blocks of one width. A part of such a table is read back by `block`, or `map_block`
-- where a function makes the blocks; `joined_parts` goes the other way. At the end: chains of tests, taken apart.
use Prim.Native.Nat.{ℕ, zero, suc, ◌+◌, ◌-◌, ◌*◌, ◌≤◌, ◌<◌, suc-le-suc}
use native.Mathlib.Nat.{not-suc-le-zero, le_of_suc-le-suc, zero-mul, suc-mul, le_antisymm}
use native.Mathlib.Omega.{arith}
use mathlib.Core.Bool.{Bool, true, false, ◌&&◌}
use mathlib.Core.List.{List, [], ◌∷◌, ◌++◌, map, map-append, append_assoc, append-nil}
use mathlib.Core.Logic.{⊎_elim}
use mathlib.Core.Path.{◌≡◌, refl, sym, ap, ◌∙◌}
use lib.ListN.{length, get_or, take, drop, length-append, length-drop, length-map, get_or-eq_default}
use lib.Seq.{drop-cons, drop-append-add, take_at, take-add, get_or-append-add, get_or-take, get_or-drop, length-take-le}
use Rattle.ground.specs.Rows.{at, tab, zeros, lowest, joined, filled}
use Rattle.ground.proofs.Rows.{length_tab, tab_at, tab_ext, tab_row, lowest_le, lowest_some, lowest_holds}
use Rattle.ground.proofs.Tests.{both, less_or_not, not_both}

module _ {ℓ κ} {A : Type ℓ} {B : Type κ} where
  -- The image of a row made from a function.
  pub map_tab : (f : A → B) (n : ℕ) (g : ℕ → A) → map f (tab n g) ≡ tab n (λ i. f (g i))
  map_tab f zero g = refl
  map_tab f (suc n) g =
      map-append f (tab n g) (g n ∷ []) ∙ ap (λ (zs : List B). zs ++ (f (g n) ∷ [])) (map_tab f n g)

  -- Place i of an image.
  pub map_at : (f : A → B) (xs : List A) (i : ℕ) (d : A) (e : B) → i < length xs
      → get_or (map f xs) i e ≡ f (get_or xs i d)
  map_at f [] i d e h = absurd (not-suc-le-zero h)
  map_at f (x ∷ xs) zero d e h = refl
  map_at f (x ∷ xs) (suc i) d e h = map_at f xs i d e (le_of_suc-le-suc h)

-- A row of the first n places of a list is its first n numbers.
pub tab_take : (n : ℕ) (xs : List ℕ) → n ≤ length xs → tab n (at xs) ≡ take n xs
tab_take n xs h =
    tab_ext n (at xs) (at (take n xs)) (λ i l. sym (get_or-take n xs i 0 l)) ∙ tab_row n (take n xs) 0 (length-take-le n xs h)

-- A row of the n places from place k on is that part of the list.
pub tab_part : (k n : ℕ) (xs : List ℕ) → k + n ≤ length xs → tab n (λ j. at xs (k + j)) ≡ take n (drop k xs)
tab_part k n xs h =
    tab_ext n (λ j. at xs (k + j)) (at (drop k xs)) (λ j l. sym (get_or-drop k xs j 0))
    ∙ tab_take n (drop k xs) (omega (arith, length-drop k xs))

-- Place k + j of a list is place j of what is left without its first k numbers.
pub at_from : (k : ℕ) (xs ys : List ℕ) → drop k xs ≡ ys → (j p : ℕ) → p ≡ k + j → at xs p ≡ at ys j
at_from k xs ys e j p q = rw (q, ← e, get_or-drop)

-- A row of nothing holds 0 at every place, and past its end.
pub at_zeros : (n i : ℕ) → at (zeros n) i ≡ 0
at_zeros zero i = refl
at_zeros (suc n) zero = refl
at_zeros (suc n) (suc i) = at_zeros n i

-- Every number of a list is below b; past its end there is 0.
abbrev pub Under : (b : ℕ) → List ℕ → Type 0
Under b xs = (i : ℕ) → at xs i < b

-- Two lists of numbers below b, one after the other.
pub under_append : (b : ℕ) (xs ys : List ℕ) → Under b xs → Under b ys → Under b (xs ++ ys)
under_append b [] ys h k i = k i
under_append b (x ∷ xs) ys h k zero = h zero
under_append b (x ∷ xs) ys h k (suc i) = under_append b xs ys (λ j. h (suc j)) k i

-- A row of numbers below b.
pub under_tab : (b n : ℕ) (f : ℕ → ℕ) → 0 < b → ((i : ℕ) → i < n → f i < b) → Under b (tab n f)
under_tab b n f l h i =
    ⊎_elim
    (λ k. omega (arith, tab_at n f i 0 k, h i k))
    (λ k. omega (arith, get_or-eq_default (tab n f) 0 {n = i} (rw length_tab k)))
    (less_or_not i n)

-- A list of numbers below b, filled up with zeros.
pub under_filled : (b m : ℕ) (xs : List ℕ) → 0 < b → Under b xs → Under b (filled m xs)
under_filled b m xs l h =
    under_append b xs (zeros (m - length xs)) h (λ i. omega (arith, at_zeros (m - length xs) i))

-- Lists of numbers below b, one after the other.
pub under_joined : (b : ℕ) (bs : List (List ℕ)) → 0 < b → ((i : ℕ) → i < length bs → Under b (get_or bs i []))
    → Under b (joined bs)
under_joined b [] l h = λ i. l
under_joined b (c ∷ bs) l h =
    under_append b c (joined bs) (h zero (omega arith)) (under_joined b bs l (λ i k. h (suc i) (suc-le-suc k)))

-- The same for a row of lists.
pub under_rows : (b n : ℕ) (f : ℕ → List ℕ) → 0 < b → ((i : ℕ) → i < n → Under b (f i)) → Under b (joined (tab n f))
under_rows b n f l h =
    under_joined b (tab n f) l (λ i k.
    let below : i < n = rw (length_tab n f) at k in
    rw (tab_at n f i [] below) (h i below))

-- A list that is filled up holds zeros past its own numbers.
pub filled_past : (m : ℕ) (xs : List ℕ) (i : ℕ) → length xs ≤ i → at (filled m xs) i ≡ 0
filled_past m xs i h =
    let e : length xs + (i - length xs) ≡ i = omega arith in
    rw (← e, get_or-append-add) (at_zeros (m - length xs) (i - length xs))

-- The lowest unit is k where the test holds of no unit below k, and holds of k unless k is the count.
pub lowest_is : (n : ℕ) (p : ℕ → Bool) (k : ℕ) → k ≤ n → ((i : ℕ) → i < k → p i ≡ false) → (k < n → p k ≡ true)
    → lowest n p ≡ k
lowest_is n p k h before here = le_antisymm most least
  where
    most : lowest n p ≤ k
    most = ⊎_elim (λ l. lowest_some n p k l (here l)) (λ l. omega (arith, lowest_le n p)) (less_or_not k n)

    least : k ≤ lowest n p
    least =
        ⊎_elim
        (λ l. absurd (not_both (p (lowest n p)) (lowest_holds n p (omega arith)) (before (lowest n p) l)))
        (λ l. l)
        (less_or_not (lowest n p) k)

-- Lists of two groups, one after the other.
pub joined_append : (cs bs : List (List ℕ)) → joined (cs ++ bs) ≡ joined cs ++ joined bs
joined_append [] bs = refl
joined_append (c ∷ cs) bs = ap (λ zs. c ++ zs) (joined_append cs bs) ∙ sym (append_assoc c (joined cs) (joined bs))

-- Each of the lists has w numbers.
abbrev pub Blocks : (w : ℕ) → List (List ℕ) → Type 0
Blocks w bs = (i : ℕ) → i < length bs → length (get_or bs i []) ≡ w

-- A row of lists of w numbers is a row of blocks.
pub blocks_tab : (w n : ℕ) (f : ℕ → List ℕ) → ((i : ℕ) → i < n → length (f i) ≡ w) → Blocks w (tab n f)
blocks_tab w n f h i l =
    let k : i < n = rw (length_tab n f) at l in
    ap length (tab_at n f i [] k) ∙ h i k

-- Blocks of w numbers have together w for each.
pub length_joined : (w : ℕ) (bs : List (List ℕ)) → Blocks w bs → length (joined bs) ≡ length bs * w
length_joined w [] h = sym (zero-mul w)
length_joined w (b ∷ bs) h =
    omega (
      arith,
      length-append b (joined bs),
      h zero (omega arith),
      length_joined w bs (λ i l. h (suc i) (suc-le-suc l)),
      suc-mul (length bs) w,
    )

-- Without the first i blocks the others are left.
pub drop_blocks : (w : ℕ) (bs : List (List ℕ)) (rest : List ℕ) → Blocks w bs → (i : ℕ) → i ≤ length bs
    → drop (i * w) (joined bs ++ rest) ≡ joined (drop i bs) ++ rest
drop_blocks w bs rest h zero l = rw zero-mul
drop_blocks w [] rest h (suc i) l = absurd (not-suc-le-zero l)
drop_blocks w (b ∷ bs) rest h (suc i) l =
    let e : suc i * w ≡ length b + i * w = omega (arith, suc-mul i w, h zero (omega arith)) in
    rw (e, append_assoc, drop-append-add)
    (drop_blocks w bs rest (λ j k. h (suc j) (suc-le-suc k)) i (le_of_suc-le-suc l))

-- From place i * w on there is block i, and then what follows it.
pub block_first : (w : ℕ) (bs : List (List ℕ)) (rest : List ℕ) → Blocks w bs → (i : ℕ) → i < length bs
    → drop (i * w) (joined bs ++ rest) ≡ get_or bs i [] ++ (joined (drop (suc i) bs) ++ rest)
block_first w bs rest h i l =
    drop_blocks w bs rest h i (omega arith)
    ∙ ap (λ cs. joined cs ++ rest) (drop-cons bs i [] l)
    ∙ append_assoc (get_or bs i []) (joined (drop (suc i) bs)) rest

-- The w numbers from place i * w on are block i.
pub block : (w : ℕ) (bs : List (List ℕ)) (rest : List ℕ) → Blocks w bs → (i : ℕ) → i < length bs
    → take w (drop (i * w) (joined bs ++ rest)) ≡ get_or bs i []
block w bs rest h i l =
    rw (block_first w bs rest h i l) (take_at (get_or bs i []) (joined (drop (suc i) bs) ++ rest) w (h i l))

-- The same for the lists that a function makes of the elements of a list.
module _ {ℓ} {A : Type ℓ} (w : ℕ) (f : A → List ℕ) (xs : List A) (d : A) where
  -- Each of them has w numbers.
  abbrev pub Wide : Type 0
  Wide = (i : ℕ) → i < length xs → length (f (get_or xs i d)) ≡ w

  -- They are blocks.
  pub map_blocks : Wide → Blocks w (map f xs)
  map_blocks wide i l =
      let h : i < length xs = rw (length-map xs f) at l in
      ap length (map_at f xs i d [] h) ∙ wide i h

  -- They have together w numbers for each element.
  pub map_length : Wide → length (joined (map f xs)) ≡ length xs * w
  map_length wide = rw (length-map xs f) at (length_joined w (map f xs) (map_blocks wide))

  -- From place i * w on there is the list of element i, and then more.
  pub map_first : Wide → (rest : List ℕ) (i : ℕ) → i < length xs
      → (more : List ℕ) × (drop (i * w) (joined (map f xs) ++ rest) ≡ f (get_or xs i d) ++ more)
  map_first wide rest i l =
      let h : i < length (map f xs) = rw (length-map xs f) l in
      let more = joined (drop (suc i) (map f xs)) ++ rest in
      (more, rw (← map_at f xs i d [] l) (block_first w (map f xs) rest (map_blocks wide) i h))

  -- The w numbers from place i * w on are the list of element i.
  pub map_block : Wide → (rest : List ℕ) (i : ℕ) → i < length xs
      → take w (drop (i * w) (joined (map f xs) ++ rest)) ≡ f (get_or xs i d)
  map_block wide rest i l =
      let found = map_first wide rest i l in
      rw found.1 (take_at (f (get_or xs i d)) found.0 w (wide i l))

-- The first n parts of w numbers, one after the other, are the first n * w numbers.
pub joined_parts : (w n : ℕ) (xs : List ℕ) → joined (tab n (λ i. take w (drop (i * w) xs))) ≡ take (n * w) xs
joined_parts w zero xs = rw zero-mul
joined_parts w (suc n) xs =
    rw (joined_append, joined_parts w n xs, suc-mul, take-add, append-nil)

-- Of two tests that hold together the first holds.
pub both_left : (a b : Bool) → a && b ≡ true → a ≡ true
both_left a b e = (both a b e).0

-- Of two tests that hold together the second holds.
pub both_right : (a b : Bool) → a && b ≡ true → b ≡ true
both_right a b e = (both a b e).1

-- `search parts` proves each test of a chain `a && b && c ..` that is known to be true.
pub ruleset parts = (both_left, both_right)
