-- Lists laid one after the other by a loop: one list more, and how long they are together where none is longer than w.
use Prim.Native.Nat.{ℕ, zero, suc, ◌+◌, ◌*◌, ◌≤◌, ◌<◌}
use native.Mathlib.Nat.{zero-mul, suc-mul}
use native.Mathlib.Numerals.{add-one}
use native.Mathlib.Omega.{arith}
use mathlib.Core.List.{List, [], ◌∷◌, ◌++◌, append-nil}
use mathlib.Core.Logic.{⊎_elim}
use mathlib.Core.Path.{◌≡◌, ap, ◌∙◌}
use lib.ListN.{length, length-append}
use Rattle.ground.specs.Rows.{tab, joined}
use Rattle.ground.proofs.Lists.{joined_append}
use Rattle.ground.proofs.Rows.{below_suc}

-- One list more.
pub joined_suc : (n : ℕ) (f : ℕ → List ℕ) → joined (tab (suc n) f) ≡ joined (tab n f) ++ f n
joined_suc n f = joined_append (tab n f) (f n ∷ []) ∙ ap (λ (zs : List ℕ). joined (tab n f) ++ zs) (append-nil (f n))

-- One more turn of a loop that lays them.
pub joined_more : (n : ℕ) (f : ℕ → List ℕ) → joined (tab (n + 1) f) ≡ joined (tab n f) ++ f n
joined_more n f = rw add-one (joined_suc n f)

-- One list more, in length.
joined_longer : (n : ℕ) (f : ℕ → List ℕ) → length (joined (tab (suc n) f)) ≡ length (joined (tab n f)) + length (f n)
joined_longer n f = ap length (joined_suc n f) ∙ length-append (joined (tab n f)) (f n)

module _ (w n : ℕ) (f : ℕ → List ℕ) (most : (i : ℕ) → i < n → length (f i) ≤ w) where
  -- Together they are at most w for each.
  pub joined_most : (k : ℕ) → k ≤ n → length (joined (tab k f)) ≤ k * w
  joined_most zero h = omega (arith, zero-mul w)
  joined_most (suc k) h = omega (arith, joined_longer k f, joined_most k (omega arith), most k h, suc-mul k w)

  -- Where one of them is empty, they are at most w for each other.
  pub joined_skip : (e : ℕ) → f e ≡ [] → (k : ℕ) → e < k → k ≤ n → length (joined (tab k f)) + w ≤ k * w
  joined_skip e none zero l h = absurd (omega arith)
  joined_skip e none (suc k) l h =
      ⊎_elim
      (λ q. omega (arith, joined_longer k f, joined_most k (omega arith), ap length (ap f q), ap length none, suc-mul k w))
      (λ q. omega (arith, joined_longer k f, joined_skip e none k q (omega arith), most k h, suc-mul k w))
      (below_suc l)
