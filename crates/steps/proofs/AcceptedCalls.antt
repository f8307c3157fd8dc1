-- What is known of a call that is not refused: of each of its refusals, that it does not apply.
use Prim.Native.Nat.{ℕ, suc, ◌≤◌, ◌<◌}
use mathlib.Core.Bool.{Bool, true, false, not, ◌&&◌, ◌||◌}
use mathlib.Core.Logic.{◌≢◌}
use mathlib.Core.Path.{◌≡◌}
use lib.Dec.{eqb, ltb, leb}
use lib.ListN.{length}
use borrow.Author.Tests.{ltb-true, leb-true, eqb-false, not-false}
use Rattle.ground.specs.Limits.{highest_cost, legal_cost}
use Rattle.ground.specs.Refusal.{accepted, ◌gives◌, ◌otherwise◌}
use Rattle.ground.proofs.Refusal.{gives_none, otherwise_none}
use Rattle.ground.proofs.Tests.{both, neither}
use Rattle.tree.specs.Recompute.{copy_of}
use Rattle.tree.specs.Tree.{is_tree}
use Rattle.rules.specs.Event.{message_refusal, changes_nothing}
use Rattle.rules.specs.Message.{Message, holds_acknowledgment, applied}
use Rattle.rules.specs.Network.{Network, up, cost, down, deliver, unit_at, queue, is_up, next_message, bad_ends, overflows}
use Rattle.rules.specs.Network.{refusal_of}
use Rattle.rules.specs.Unit.{Unit, awaits}

-- Where no refusal of a list is given, the first, whose number is one above k, does not apply, and no other is given.
passed : (condition : Bool) (k rest : ℕ) → condition gives suc k otherwise rest ≡ accepted
    → (condition ≡ false) × (rest ≡ accepted)
passed condition k rest e =
    let p : (condition gives suc k ≡ accepted) × (rest ≡ accepted) = otherwise_none (condition gives suc k) rest e in
    (gives_none condition k p.0, p.1)

-- Two different units.
pub record Ends (n a b : ℕ) : Type 0 where
  pub first : a < n
  pub second : b < n
  pub differ : a ≢ b

-- Ends that are not refused with 3.
pub good_ends : (n a b : ℕ) → bad_ends n a b ≡ false → Ends n a b
unfolding bad_ends
good_ends n a b e =
    let p : (not (ltb a n) || not (ltb b n) ≡ false) × (eqb a b ≡ false) =
    neither (not (ltb a n) || not (ltb b n)) (eqb a b) e in
    let q : (not (ltb a n) ≡ false) × (not (ltb b n) ≡ false) = neither (not (ltb a n)) (not (ltb b n)) p.0 in
    record {
      first = ltb-true a n (not-false (ltb a n) q.0);
      second = ltb-true b n (not-false (ltb b n) q.1);
      differ = eqb-false a b p.1;
    }

-- A legal cost: at least 1, at most the highest.
pub record LegalCost (c : ℕ) : Type 0 where
  pub least : 1 ≤ c
  pub most : c ≤ highest_cost

-- A cost that passes the test is legal.
legal-cost : (c : ℕ) → legal_cost c ≡ true → LegalCost c
legal-cost c e =
    let p : (leb 1 c ≡ true) × (leb c highest_cost ≡ true) = both (leb 1 c) (leb c highest_cost) e in
    record { least = leb-true 1 c p.0; most = leb-true c highest_cost p.1 }

-- A message that is not refused leaves a copy that is a tree.
pub message_tree : (u : Unit) (m : Message) → message_refusal u m ≡ accepted
    → is_tree u.count m.sender (applied (copy_of u.copies m.sender) m.changes) ≡ true
unfolding message_refusal
message_tree u m e =
    not-false (is_tree u.count m.sender (applied (copy_of u.copies m.sender) m.changes))
    (gives_none _ 11
    (passed (changes_nothing (copy_of u.copies m.sender) m.changes) 10 _
    (passed (holds_acknowledgment m && not (awaits u m.sender)) 9 _ e).1).1)

module _ (net : Network) (a b : ℕ) (result : Network) where
  -- A link that may come up.
  pub record AcceptedUp (costOfA costOfB : ℕ) : Type 0 where
    pub ends : Ends net.count a b
    pub cost_a : LegalCost costOfA
    pub cost_b : LegalCost costOfB
    pub closed : is_up net a b ≡ false
    pub room : overflows result ≡ false

  -- A cost that may change.
  pub record AcceptedCost (c : ℕ) : Type 0 where
    pub ends : Ends net.count a b
    pub cost : LegalCost c
    pub opened : is_up net a b ≡ true
    pub room : overflows result ≡ false

  -- A link that may go down.
  pub record AcceptedDown : Type 0 where
    pub ends : Ends net.count a b
    pub opened : is_up net a b ≡ true
    pub room : overflows result ≡ false

  -- A message that may be delivered.
  pub record AcceptedDelivery : Type 0 where
    pub ends : Ends net.count a b
    pub opened : is_up net a b ≡ true
    pub some : eqb (length (queue net a b)) 0 ≡ false
    pub message : message_refusal (unit_at net b) (next_message (queue net a b)) ≡ accepted
    pub room : overflows result ≡ false

  -- The ends of a call that passed the first refusal.
  two_units : (rest : ℕ) → bad_ends net.count a b gives 3 otherwise rest ≡ accepted
      → Ends net.count a b × (rest ≡ accepted)
  two_units rest e =
      let p : (bad_ends net.count a b ≡ false) × (rest ≡ accepted) = passed (bad_ends net.count a b) 2 rest e in
      (good_ends net.count a b p.0, p.1)

  -- A link up that is not refused.
  pub accepted_up : (ca cb : ℕ) → refusal_of net (up a b ca cb) result ≡ accepted → AcceptedUp ca cb
  unfolding refusal_of
  accepted_up ca cb e =
      let t : Ends net.count a b × _ = two_units _ e in
      let l : (not (legal_cost ca && legal_cost cb) ≡ false) × _ =
      passed (not (legal_cost ca && legal_cost cb)) 3 _ t.1 in
      let c : (legal_cost ca ≡ true) × (legal_cost cb ≡ true) =
      both (legal_cost ca) (legal_cost cb) (not-false (legal_cost ca && legal_cost cb) l.0) in
      let d : (is_up net a b ≡ false) × _ = passed (is_up net a b) 4 _ l.1 in
      record {
        ends = t.0;
        cost_a = legal-cost ca c.0;
        cost_b = legal-cost cb c.1;
        closed = d.0;
        room = gives_none (overflows result) 12 d.1;
      }

  -- A cost that is not refused.
  pub accepted_cost : (c : ℕ) → refusal_of net (cost a b c) result ≡ accepted → AcceptedCost c
  unfolding refusal_of
  accepted_cost c e =
      let t : Ends net.count a b × _ = two_units _ e in
      let l : (not (legal_cost c) ≡ false) × _ = passed (not (legal_cost c)) 3 _ t.1 in
      let d : (not (is_up net a b) ≡ false) × _ = passed (not (is_up net a b)) 5 _ l.1 in
      record {
        ends = t.0;
        cost = legal-cost c (not-false (legal_cost c) l.0);
        opened = not-false (is_up net a b) d.0;
        room = gives_none (overflows result) 12 d.1;
      }

  -- A link down that is not refused.
  pub accepted_down : refusal_of net (down a b) result ≡ accepted → AcceptedDown
  unfolding refusal_of
  accepted_down e =
      let t : Ends net.count a b × _ = two_units _ e in
      let d : (not (is_up net a b) ≡ false) × _ = passed (not (is_up net a b)) 5 _ t.1 in
      record {
        ends = t.0;
        opened = not-false (is_up net a b) d.0;
        room = gives_none (overflows result) 12 d.1;
      }

  -- A delivery that is not refused.
  pub accepted_delivery : refusal_of net (deliver a b) result ≡ accepted → AcceptedDelivery
  unfolding refusal_of
  accepted_delivery e =
      let t : Ends net.count a b × _ = two_units _ e in
      let d : (not (is_up net a b) ≡ false) × _ = passed (not (is_up net a b)) 5 _ t.1 in
      let q : (eqb (length (queue net a b)) 0 ≡ false) × _ = passed (eqb (length (queue net a b)) 0) 7 _ d.1 in
      let r : (message_refusal (unit_at net b) (next_message (queue net a b)) ≡ accepted) × _ =
      otherwise_none (message_refusal (unit_at net b) (next_message (queue net a b))) _ q.1 in
      record {
        ends = t.0;
        opened = not-false (is_up net a b) d.0;
        some = q.0;
        message = r.0;
        room = gives_none (overflows result) 12 r.1;
      }
