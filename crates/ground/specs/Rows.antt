-- Words: rows, which are lists of numbers indexed by unit, and questions over all units below a count. Each recursion runs as
-- a loop that counts up runs, so that one more turn of the loop is one more step of the definition.
use Rattle.std.specs.Prelude.{ℕ, zero, suc, ◌+◌, ◌-◌, ◌/◌, ◌%◌, ◌^◌, min, Bool, true, false, ◌&&◌, ◌||◌, List, [], ◌∷◌, ◌++◌, map, eqb, ltb, leb, length, get_or, replicate, take, drop}
use Rattle.std.specs.Prelude.{if◌then◌else◌}
use mathlib.Core.Bool.{cond}
use Rattle.ground.specs.Limits.{far, unit_limit}

-- What a row holds for a unit; 0 past its end.
abbrev pub at : List ℕ → ℕ → ℕ
at row j = get_or row j 0

-- The list of f 0, f 1, .., f (n - 1).
abbrev pub tab {ℓ} : {A : Type ℓ} → ℕ → (ℕ → A) → List A
tab zero f = []
tab (suc n) f = tab n f ++ (f n ∷ [])

-- A row of nothing.
abbrev pub zeros : ℕ → List ℕ
zeros n = replicate n 0

-- Whether p holds of every unit below n; of some unit below n.
abbrev pub every : ℕ → (ℕ → Bool) → Bool
every zero p = true
every (suc n) p = every n p && p n

abbrev pub some : ℕ → (ℕ → Bool) → Bool
some zero p = false
some (suc n) p = some n p || p n

-- The least of f over the units below n, unreachable where there is none.
abbrev pub least : ℕ → (ℕ → ℕ) → ℕ
least zero f = far
least (suc n) f = min (least n f) (f n)

-- The sum of f over the numbers below n.
abbrev pub total : ℕ → (ℕ → ℕ) → ℕ
total zero f = 0
total (suc n) f = total n f + f n

-- The lowest unit below n of which p holds, or n.
abbrev pub lowest : ℕ → (ℕ → Bool) → ℕ
lowest zero p = zero
lowest (suc n) p =
    let found = lowest n p in
    if ltb found n || p n then found else suc n

-- The units below n of which p holds, rising; and the same set as one number, the sum of 2 ^ k over its units k.
abbrev pub rising : ℕ → (ℕ → Bool) → List ℕ
rising zero p = []
rising (suc n) p = rising n p ++ (if p n then n ∷ [] else [])

abbrev pub bits : ℕ → (ℕ → Bool) → ℕ
bits zero p = 0
bits (suc n) p = bits n p + (if p n then 2 ^ n else 0)

-- Whether unit k is in a set that is given as such a number.
abbrev pub is_in : (set k : ℕ) → Bool
is_in set k = eqb (set / 2 ^ k % 2) 1

-- Whether two lists of numbers are the same.
abbrev pub same : List ℕ → List ℕ → Bool
same xs ys = eqb (length xs) (length ys) && every (length xs) (λ i. eqb (at xs i) (at ys i))

-- The lists one after the other; a list filled up with zeros to m places.
abbrev pub joined : List (List ℕ) → List ℕ
joined [] = []
joined (xs ∷ rest) = xs ++ joined rest

abbrev pub filled : ℕ → List ℕ → List ℕ
filled m xs = xs ++ zeros (m - length xs)

-- What is worked out for the units below n: nothing where n is above the limit.
abbrev pub counted {ℓ} : {A : Type ℓ} → (n : ℕ) → List A → List A
counted n xs = cond (leb n unit_limit) xs []

-- Rows filled up with zeros to m places, and with rows of zeros to m rows.
abbrev pub filled_rows : ℕ → List (List ℕ) → List (List ℕ)
filled_rows m rows = map (filled m) rows ++ replicate (m - length rows) (zeros m)

-- Bytes laid into a buffer from a place on; the others stay.
abbrev pub laid_after : (used : ℕ) (bytes buffer : List ℕ) → List ℕ
laid_after used bytes buffer = take used buffer ++ bytes ++ drop (used + length bytes) buffer
