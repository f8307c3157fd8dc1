-- `recomputing::through::far_row` meets its contract: what is filled, and then the zeros that were there.
use Prim.Native.Nat.{ℕ, zero, suc}
use native.Mathlib.Numerals.{add-one}
use mathlib.Core.List.{List, [], ◌∷◌, ◌++◌}
use mathlib.Core.Path.{◌≡◌, refl, ap, ◌∙◌}
use borrow.Author.Rules.{rules}
use lib.ListN.{replicate, drop, length-replicate}
use lib.Seq.{length-take-le}
use Rattle.std.proofs.lemmas.List.{drop-replicate, replicate-append-replicate}
use Rattle.ground.specs.Limits.{unit_limit, far}
use Rattle.ground.specs.Rows.{tab, zeros, filled}
use Rattle.recomputing.proofs.through.far_row.Goals as goal

-- A row of unreachable, and what it is in an array of zeros.
all_far : (n : ℕ) → tab n (λ j. far) ≡ replicate n far
all_far zero = refl
all_far (suc n) =
    ap (λ (xs : List ℕ). xs ++ (far ∷ [])) (all_far n)
    ∙ replicate-append-replicate n 1 far
    ∙ ap (λ (k : ℕ). replicate k far) (add-one n)

far_filled : (n : ℕ) {part : List ℕ} → part ≡ replicate n far → part ++ drop n (zeros unit_limit) ≡ filled unit_limit (tab n (λ j. far))
far_filled n e = rw (e, drop-replicate, all_far, length-replicate)

pub returns : goal.returns
returns c =
    far_filled c.args.count
    (c.fill.ensures.after (λ y e. search rules)
    ∙ ap (λ n. replicate n far) (length-take-le c.args.count _ (search rules)))
