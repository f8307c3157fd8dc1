-- Laws of sums over the numbers below a count.
use Prim.Native.Nat.{ℕ, zero, suc, ◌+◌, ◌*◌, ◌≤◌, ◌<◌}
use native.Mathlib.Nat.{not-suc-le-zero, lt-suc_self, suc-mul, zero-mul}
use native.Mathlib.Omega.{arith}
use native.Mathlib.Numerals.{add-one}
use mathlib.Core.Logic.{◌≢◌, ⊎_elim}
use mathlib.Core.Path.{◌≡◌, refl, ap, ap₂}
use Rattle.ground.specs.Rows.{total}
use Rattle.ground.proofs.Rows.{below_suc}

-- Functions that agree below n have the same sum.
pub total_ext : (n : ℕ) (f g : ℕ → ℕ) → ((i : ℕ) → i < n → f i ≡ g i) → total n f ≡ total n g
total_ext zero f g h = refl
total_ext (suc n) f g h = ap₂ ◌+◌ (total_ext n f g (λ i l. h i (omega arith))) (h n (lt-suc_self n))

-- One term more.
pub total_more : (n : ℕ) (f : ℕ → ℕ) → total (n + 1) f ≡ total n f + f n
total_more n f = rw add-one refl

-- Nothing adds up to nothing.
pub total_none : (n : ℕ) (f : ℕ → ℕ) → ((i : ℕ) → i < n → f i ≡ 0) → total n f ≡ 0
total_none zero f h = refl
total_none (suc n) f h = omega (arith, total_none n f (λ i l. h i (omega arith)), h n (lt-suc_self n))

-- A sum of n terms that are at most m each.
pub total_most : (n m : ℕ) (f : ℕ → ℕ) → ((i : ℕ) → i < n → f i ≤ m) → total n f ≤ n * m
total_most zero m f h = simp zero-mul (omega arith)
total_most (suc n) m f h = simp suc-mul (omega (arith, total_most n m f (λ i l. h i (omega arith)), h n (lt-suc_self n)))

-- One term is at most the sum.
pub total_least : (n : ℕ) (f : ℕ → ℕ) (k : ℕ) → k < n → f k ≤ total n f
total_least zero f k l = absurd (not-suc-le-zero l)
total_least (suc n) f k l =
    ⊎_elim (λ e. omega (arith, ap f e)) (λ s. omega (arith, total_least n f k s)) (below_suc l)

-- Functions that agree but for one number: each sum and the other's term there.
pub total_change : (n : ℕ) (f g : ℕ → ℕ) (k : ℕ) → k < n → ((i : ℕ) → i < n → i ≢ k → f i ≡ g i)
    → total n f + g k ≡ total n g + f k
total_change zero f g k l h = absurd (not-suc-le-zero l)
total_change (suc n) f g k l h =
    ⊎_elim
    (λ e.
    let rest : total n f ≡ total n g = total_ext n f g (λ i s. h i (omega arith) (λ same. omega arith)) in
    let here : f k ≡ f n = ap f e in
    let there : g k ≡ g n = ap g e in
    omega arith)
    (λ s.
    let rest : total n f + g k ≡ total n g + f k = total_change n f g k s (λ i t d. h i (omega arith) d) in
    let last : f n ≡ g n = h n (lt-suc_self n) (λ same. omega arith) in
    omega arith)
    (below_suc l)
