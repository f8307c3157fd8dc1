-- What holds of a network at all times: its shape, its units' tables, the senders of its messages, and of each link that
-- it is up at both ends or at none, and a Line in each direction. While an event about the link between a and b is under
-- way, all this holds `Apart` from that link: replacing a queue of it keeps this, and so does the reaction of an end.
use Prim.Native.Nat.{ℕ, ◌≤◌, ◌<◌}
use mathlib.Core.Bool.{true, false, not, true≢false}
use mathlib.Core.List.{List, [], ◌++◌}
use mathlib.Core.Logic.{◌≢◌}
use mathlib.Core.Path.{◌≡◌, sym, ap, ◌∙◌}
use lib.Dec.{eqb}
use lib.ListN.{get_or}
use Rattle.ground.specs.Limits.{unit_limit}
use Rattle.ground.specs.Rows.{at}
use Rattle.ground.proofs.Each.{each_append}
use Rattle.tree.specs.Recompute.{copy_of}
use Rattle.rules.specs.Event.{Event, Reaction, new_of, owed_of, reaction}
use Rattle.rules.specs.Message.{Message}
use Rattle.rules.specs.Network.{Network, unit_at, queue, is_up, with_queue, reacted, happens}
use Rattle.rules.specs.Unit.{Unit, is_neighbour}
use Rattle.ground.proofs.Cases.{by_equal}
use Rattle.loopfree.proofs.Exchange.{Line, one_if, line_back}
use Rattle.loopfree.proofs.Reaction.{Ready, Reacts, reacts}
use Rattle.loopfree.proofs.Sent.{From}
use Rattle.steps.proofs.NetworkLists.{Shape, queue_here, queue_elsewhere, units_stay, shape_queue}
use Rattle.steps.proofs.NetworkLists.{unit_here, unit_elsewhere, queue-from, queue_of_other, shape_reacted}
use Rattle.loopfree.proofs.Sound.{Links, having, Home, Touch, is_new, is_owed}

-- The direction from unit i with tables u to unit k with tables w.
abbrev pub Direction : (n i k : ℕ) (u w : Unit) (there back : List Message) → Type 0
Direction n i k u w there back =
    Line n i (is_neighbour u k) (at u.awaited k) u.tree u.feasible (copy_of w.copies i) there back

-- The direction from i to k in a network.
abbrev pub LineOf : (n : ℕ) → Network → (i k : ℕ) → Type 0
LineOf n net i k = Direction n i k (unit_at net i) (unit_at net k) (queue net i k) (queue net k i)

-- The invariant, with what it says of links for those that are asked for.
pub record Holds (n : ℕ) (Asked : ℕ → ℕ → Type 0) (net : Network) : Type 0 where
  pub shape : Shape n net
  pub home : (i : ℕ) → i < n → Home n i (unit_at net i)
  pub signed : (x y : ℕ) → x < n → y < n → From x (queue net x y)
  pub ends : (x y : ℕ) → x < n → y < n → Asked x y → is_up net x y ≡ is_up net y x
  pub lines : (x y : ℕ) → x < n → y < n → Asked x y → LineOf n net x y

-- Between two different units.
abbrev pub Any : ℕ → ℕ → Type 0
Any x y = x ≢ y

-- And not between a and b.
abbrev pub Apart : (a b : ℕ) → ℕ → ℕ → Type 0
Apart a b x y = (x ≢ y) × (x ≡ a → y ≡ b → ⊥) × (x ≡ b → y ≡ a → ⊥)

-- Not between a and b is not between b and a.
pub apart_turned : {a b : ℕ} (x y : ℕ) → Apart a b x y → Apart b a x y
apart_turned x y d = (d.0, d.2, d.1)

-- Fewer directions may be asked for.
pub holds_fewer : {n : ℕ} {Asked Fewer : ℕ → ℕ → Type 0} {net : Network} → ((x y : ℕ) → Fewer x y → Asked x y)
    → Holds n Asked net → Holds n Fewer net
holds_fewer f h =
    record {
      shape = h.shape;
      home = h.home;
      signed = h.signed;
      ends = λ x y hx hy a. h.ends x y hx hy (f x y a);
      lines = λ x y hx hy a. h.lines x y hx hy (f x y a);
    }

-- Three cases: from a to b, from b to a, or apart from these.
pub by_direction : (P : ℕ → ℕ → Type 0) (a b : ℕ) → P a b → P b a → (x y : ℕ) → x ≢ y → (Apart a b x y → P x y) → P x y
by_direction P a b there back x y d rest =
    by_equal x a
    (λ xa. by_equal y b
    (λ yb. rw (xa, yb) there)
    (λ yb. rest (d, (λ p q. yb q), (λ p q. d (xa ∙ sym q)))))
    (λ xa. by_equal x b
    (λ xb. by_equal y a
    (λ ya. rw (xb, ya) back)
    (λ ya. rest (d, (λ p q. xa p), (λ p q. ya q))))
    (λ xb. rest (d, (λ p q. xa p), (λ p q. xb p))))

-- The two directions that were left out, put back.
pub holds_all : {n : ℕ} {net : Network} (a b : ℕ) → Holds n (Apart a b) net → is_up net a b ≡ is_up net b a
    → LineOf n net a b → LineOf n net b a → Holds n Any net
holds_all {n} {net} a b h e there back =
    record {
      shape = h.shape;
      home = h.home;
      signed = h.signed;
      ends = λ x y hx hy d.
          by_direction (λ x y. is_up net x y ≡ is_up net y x) a b e (sym e) x y d (h.ends x y hx hy);
      lines = λ x y hx hy d. by_direction (LineOf n net) a b there back x y d (h.lines x y hx hy);
    }

-- The directions of one network are those of another where units and queues are the same.
pub line_same : (n : ℕ) (net net' : Network) (x y : ℕ) → unit_at net' x ≡ unit_at net x → unit_at net' y ≡ unit_at net y
    → queue net' x y ≡ queue net x y → queue net' y x ≡ queue net y x → LineOf n net x y → LineOf n net' x y
line_same n net net' x y ux uy there back l = rw (ux, uy, there, back) l

module _ (n a b : ℕ) (net : Network) (ha : a < n) (hb : b < n) (holds : Holds n (Apart a b) net) where
  -- The queue from a to b may be replaced by one whose messages are from a too.
  pub holds_queue : (messages : List Message) → From a messages → Holds n (Apart a b) (with_queue net a b messages)
  holds_queue messages from =
      record {
        shape = shape_queue n net holds.shape a b messages ha hb;
        home = λ i h. rw (stays i) (holds.home i h);
        signed = λ x y hx hy.
            by_equal x a
            (λ xa. by_equal y b
            (λ yb. rw (xa, yb, queue_here n net holds.shape a b messages ha hb) from)
            (λ yb. rw (elsewhere x y (λ p q. yb q)) (holds.signed x y hx hy)))
            (λ xa. rw (elsewhere x y (λ p q. xa p)) (holds.signed x y hx hy));
        ends = λ x y hx hy d. rw (stays x, stays y) (holds.ends x y hx hy d);
        lines = λ x y hx hy d.
            line_same n net (with_queue net a b messages) x y (stays x) (stays y)
            (elsewhere x y d.1) (elsewhere y x (λ p q. d.2 q p))
            (holds.lines x y hx hy d);
      }
    where
      stays : (x : ℕ) → unit_at (with_queue net a b messages) x ≡ unit_at net x
      stays x = units_stay n net holds.shape a b messages ha hb x

      elsewhere : (x y : ℕ) → (x ≡ a → y ≡ b → ⊥) → queue (with_queue net a b messages) x y ≡ queue net x y
      elsewhere x y o = queue_elsewhere n net holds.shape a b messages ha hb x y o

  -- Unit a may react to an event about b.
  module _ (few : n ≤ unit_limit) (e : Event) (t : Links) (touch : Touch (unit_at net a) e b t) where
    -- The reaction, and the network after it.
    abbrev r : Reaction
    r = reaction (unit_at net a) e

    abbrev net' : Network
    net' = reacted net a r

    -- What is known of the reaction.
    pub facts : Reacts n a (having (unit_at net a) t) (new_of n e) (owed_of n e) r
    facts = reacts (unit_at net a) e b t touch n a few ha (holds.home a ha)

    -- Only b may be new.
    not_new : (k : ℕ) → k < n → k ≢ b → is_new n e k ≡ false
    not_new = rw (holds.home a ha).counted at touch.not_new

    -- Only b may be owed an acknowledgment.
    no_answer : (k : ℕ) → k < n → k ≢ b → is_owed n e k ≡ false
    no_answer = rw (holds.home a ha).counted at touch.no_answer

    -- The unit that reacted.
    here : unit_at net' a ≡ r.unit
    here = unit_here n net holds.shape a r ha

    -- Another unit.
    other : (x : ℕ) → x ≢ a → unit_at net' x ≡ unit_at net x
    other x d = unit_elsewhere net a r x d

    -- The queues out of the unit that reacted.
    from : (y : ℕ) → y < n → queue net' a y ≡ queue net a y ++ get_or r.sent y []
    from y h = queue-from n net holds.shape a r ha y h

    -- The queues out of another.
    others : (x y : ℕ) → x ≢ a → queue net' x y ≡ queue net x y
    others x y d = queue_of_other net a r x y d

    -- A direction out of a, from what it is after step A.
    pub line_out : (y : ℕ) → y < n → y ≢ a → (is_new n e y ≡ true → at t.awaited y ≡ 0)
        → Ready n a y (having (unit_at net a) t) (new_of n e) (copy_of (unit_at net y).copies a) (queue net a y) (queue net y a)
        → LineOf n (happens net a e) a y
    unfolding happens
    line_out y hy d new l =
        rw (here, other y d, from y hy, others y a d)
        (facts.sends_on y hy (copy_of (unit_at net y).copies a) (queue net a y) (queue net y a) new l)

    -- A direction into a, with the copy as it is after step A and the answers on the way back.
    pub line_in : (x : ℕ) → x < n → x ≢ a
        → Line n x (is_up net x a) (at (unit_at net x).awaited a) (unit_at net x).tree (unit_at net x).feasible
        (copy_of t.copies x) (queue net x a) (queue net a x ++ get_or r.sent x [])
        → LineOf n (happens net a e) x a
    unfolding happens
    line_in x hx d l = rw (here, other x d, from x hx, others x a d, facts.copies_held) l

    -- Whether ends are up, but for a's end to b.
    pub up_same : (x y : ℕ) → (x ≡ a → y ≡ b → ⊥) → is_up (happens net a e) x y ≡ is_up net x y
    unfolding happens
    up_same x y o =
        by_equal x a (λ q. rw (q, here, facts.costs_held, touch.same_cost y (o q))) (λ q. rw (other x q))

    -- And a's end to b.
    pub up_here : is_up (happens net a e) a b ≡ not (eqb (at t.costs b) 0)
    unfolding happens
    up_here = rw (here, facts.costs_held)

    -- The reaction keeps what holds apart from the link between a and b.
    pub holds_reaction : Holds n (Apart a b) (happens net a e)
    unfolding happens
    holds_reaction =
        record {
          shape = shape_reacted n net holds.shape a r ha;
          home = λ i h. by_equal i a (λ q. rw (q, here) facts.home) (λ q. rw (other i q) (holds.home i h));
          signed = λ x y hx hy. by_equal x a
              (λ q. rw (q, from y hy) (each_append (holds.signed a y ha hy) (facts.signs y hy)))
              (λ q. rw (others x y q) (holds.signed x y hx hy));
          ends = λ x y hx hy d.
              up_same x y d.1 ∙ holds.ends x y hx hy d ∙ sym (up_same y x (λ p q. d.2 q p));
          lines = λ x y hx hy d. by_equal x a
              (λ q. rw q
              (quiet_out y hy (λ p. d.0 (q ∙ sym p)) (d.1 q)
              (holds.lines a y ha hy (λ p. d.0 (q ∙ p), λ p. d.1 q, λ p. d.2 (q ∙ p)))))
              (λ q. by_equal y a
              (λ p. rw p
              (quiet_in x hx q (λ o. d.2 o p) (holds.lines x a hx ha (q, λ o. absurd (q o), λ o z. d.2 o p))))
              (λ p. line_same n net net' x y (other x q) (other y p) (others x y q) (others y x p)
              (holds.lines x y hx hy d)));
        }
      where
        -- The directions between a and another unit than b.
        quiet_out : (y : ℕ) → y < n → y ≢ a → y ≢ b → LineOf n net a y → LineOf n (happens net a e) a y
        quiet_out y hy d yb l =
            line_out y hy d (λ w. absurd (true≢false (sym w ∙ not_new y hy yb)))
            (rw (touch.same_cost y yb, touch.same_wait y yb, not_new y hy yb) l)

        quiet_in : (x : ℕ) → x < n → x ≢ a → x ≢ b → LineOf n net x a → LineOf n (happens net a e) x a
        quiet_in x hx d xb l =
            line_in x hx d
            (rw (touch.same_copy x xb)
            (line_back (get_or r.sent x []) (facts.answers x hx ∙ ap one_if (no_answer x hx xb)) l))
