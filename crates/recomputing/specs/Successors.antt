-- Order: successor sets, from the distances through neighbours and the feasible distances. A unit whose link is down has a row
-- of unreachable, so it is no successor. crates/state/proofs/Successors.antt shows that they are `successor_set`.
use Rattle.std.specs.Prelude.{ℕ, List, [], ltb, get_or}
use Rattle.ground.specs.Rows.{at, tab, bits}

abbrev pub set_over : (n : ℕ) (through : List (List ℕ)) (feasible : List ℕ) (j : ℕ) → ℕ
set_over n through feasible j = bits n (λ k. ltb (at (get_or through k []) j) (at feasible j))

abbrev pub sets_over : (n : ℕ) (through : List (List ℕ)) (feasible : List ℕ) → List ℕ
sets_over n through feasible = tab n (set_over n through feasible)
