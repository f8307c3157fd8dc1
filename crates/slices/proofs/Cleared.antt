-- What a loop that lays a value over a list, one at a turn, has made of it after i turns.
use Prim.Native.Nat.{ℕ, suc, ◌+◌, ◌≤◌, ◌<◌}
use native.Mathlib.Numerals.{add-one}
use native.Mathlib.Omega.{arith}
use mathlib.Core.List.{List, ◌++◌, append-nil}
use mathlib.Core.Path.{◌≡◌, refl, sym, ap, ◌∙◌}
use lib.ListN.{length, set, drop, replicate, length-set, length-replicate, replicate-append-replicate}
use lib.Seq.{append_snoc, drop-cons, drop-length, set_at}
use lib.ListN.{get_or}

module _ {A : Type 0} (value : A) where
  pub record Clearing (xs now : List A) (i : ℕ) : Type 0 where
    pub turns : i ≤ length xs
    pub long : length now ≡ length xs
    pub cleared : now ≡ replicate i value ++ drop i xs

  -- At first nothing.
  pub clearing_none : (xs : List A) → Clearing xs xs 0
  clearing_none xs = record { turns = omega arith; long = refl; cleared = refl }

  module _ {xs now : List A} {i : ℕ} (z : Clearing xs now i) where
    -- One turn.
    pub clearing_more : i < length xs → Clearing xs (set now i value) (i + 1)
    clearing_more h =
        record {
          turns = omega arith;
          long = length-set now i value ∙ z.long;
          cleared =
              ap (λ (ys : List A). set ys i value) z.cleared
              ∙ ap (λ (rest : List A). set (replicate i value ++ rest) i value) (drop-cons xs i value h)
              ∙ set_at (replicate i value) (get_or xs i value) (drop (suc i) xs) value i (length-replicate i value)
              ∙ sym (append_snoc (replicate i value) value (drop (suc i) xs))
              ∙ ap (λ (front : List A). front ++ drop (suc i) xs) (replicate-append-replicate i 1 value)
              ∙ ap (λ (k : ℕ). replicate (i + 1) value ++ drop k xs) (sym (add-one i));
        }

    -- In the end all.
    pub clearing_all : length xs ≤ i → now ≡ replicate (length xs) value
    clearing_all h =
        let all : i ≡ length xs = omega arith in
        z.cleared ∙ rw (all, drop-length, append-nil)
