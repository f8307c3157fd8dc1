-- Rule: the networks that demand 3 speaks of, and the ways through them: "From the fresh network, after any sequence of link
-- events, cost changes and deliveries, refused ones included, stopped at any point: following any choice of successors".
-- A sequence may as well start from any other network that meets the conditions (`is_start`).
use Rattle.std.specs.Prelude.{ℕ, ◌<◌, true, List, [], ◌∷◌, ◌≡◌}
use Rattle.rules.specs.Network.{Network, Call, is_successor_in, fresh, step}

-- "after any sequence of link events, cost changes and deliveries, refused ones included": a refused call is a step that
-- changes nothing. "stopped at any point": a part of a sequence is a sequence too.
unfoldable pub run : Network → List Call → Network
run net [] = net
run net (call ∷ rest) = run (step net call) rest

-- "From the fresh network"
abbrev pub reached : (n : ℕ) (calls : List Call) → Network
reached n calls = run (fresh n) calls

-- "following any choice of successors": a path starts at any unit, and goes on from a unit to any of its successors for
-- the destination.
pub data Follows (net : Network) (destination : ℕ) : List ℕ → Type 0 where
  starts : {i : ℕ} → i < net.count → Follows net destination (i ∷ [])
  hop : {i k : ℕ} {rest : List ℕ} → i < net.count → is_successor_in net i destination k ≡ true
      → Follows net destination (k ∷ rest)
      → Follows net destination (i ∷ k ∷ rest)
