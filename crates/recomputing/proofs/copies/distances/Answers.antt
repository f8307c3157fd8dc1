-- `recomputing::copies::distances` meets its contract: the distances in the row of the copy.
use mathlib.Core.List.{List}
use mathlib.Core.Path.{ap, ◌∙◌}
use Prim.Native.Nat.{ℕ}
use Rattle.recomputing.specs.Flat.{distances_in}
use Rattle.recomputing.proofs.copies.distances.Goals as goal

pub returns : goal.returns
returns c =
    let args = c.args in
    c.distances.ensures ∙ ap (λ (row : List ℕ). distances_in args.count args.k row) c.copy_of.ensures
