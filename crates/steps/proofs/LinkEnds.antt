-- An end of a link is up exactly where its cost says so: after its cost was set, the other ends being as they were.
use Prim.Native.Nat.{ℕ, ◌<◌}
use native.Mathlib.Omega.{arith}
use mathlib.Core.Bool.{true, not}
use mathlib.Core.List.{List}
use mathlib.Core.Path.{◌≡◌, ap, ◌∙◌}
use borrow.Author.Tests.{ne_eqb}
use lib.Dec.{eqb}
use lib.ListN.{length, set}
use lib.Seq.{get_or-set_same}
use Rattle.ground.specs.Rows.{at}
use Rattle.steps.proofs.AcceptedCalls.{LegalCost}

-- An end is as its new cost says.
pub end_set : (costs : List ℕ) (k c : ℕ) → k < length costs → not (eqb (at (set costs k c) k) 0) ≡ not (eqb c 0)
end_set costs k c h = rw (get_or-set_same costs k c 0 h)

-- It is up where that is a legal cost.
pub end_up : (costs : List ℕ) (k c : ℕ) → k < length costs → LegalCost c → not (eqb (at (set costs k c) k) 0) ≡ true
end_up costs k c h l = end_set costs k c h ∙ ap not (ne_eqb c 0 (omega arith))
