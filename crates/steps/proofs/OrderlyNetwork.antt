-- What holds of a fit network at all times, also between the two events of a link that comes up or goes down: replacing a
-- queue keeps it, and so does an event that step A answers by fit tables.
use Prim.Native.Nat.{ℕ, ◌≤◌, ◌<◌}
use mathlib.Core.Bool.{true, false}
use mathlib.Core.List.{List, []}
use mathlib.Core.Logic.{◌≢◌}
use mathlib.Core.Path.{◌≡◌, sym, ap, subst₂, ◌∙◌}
use Rattle.ground.specs.Limits.{unit_limit}
use Rattle.rules.specs.Event.{Event, Reaction, noted, owed_of, reaction_by, reaction}
use Rattle.rules.specs.Message.{Message}
use Rattle.rules.specs.Network.{Network, unit_at, queue, is_up, with_queue, reacted, happens}
use Rattle.rules.specs.Unit.{Unit, is_neighbour, fit_unit}
use Rattle.ground.proofs.Each.{each_append}
use Rattle.ground.proofs.Tests.{not_both}
use Rattle.rules.proofs.Laid.{ShapedUnit}
use Rattle.rules.proofs.QueuedMessages.{Proper}
use Rattle.ground.proofs.Cases.{by_equal}
use Rattle.steps.proofs.NetworkLists.{Shape, queue_here, queue_elsewhere, shape_queue}
use Rattle.steps.proofs.NetworkLists.{unit_here, unit_elsewhere, queue-from, queue_of_other, shape_reacted}
use Rattle.steps.proofs.SentMessages.{Reacted, reacted_to}

-- A legal count and a place for each unit; each unit fit and shaped, with the network's count and its own number; each
-- queued message legal and from its sender; none where the sender's end is down.
pub record Orderly (net : Network) : Type 0 where
  pub low : 2 ≤ net.count
  pub high : net.count ≤ unit_limit
  pub shape : Shape net.count net
  pub counts : (i : ℕ) → i < net.count → (unit_at net i).count ≡ net.count
  pub own : (i : ℕ) → i < net.count → (unit_at net i).me ≡ i
  pub fit : (i : ℕ) → i < net.count → fit_unit (unit_at net i) ≡ true
  pub shaped : (i : ℕ) → i < net.count → ShapedUnit (unit_at net i)
  pub queued : (a b : ℕ) → a < net.count → b < net.count → Proper net.count a (queue net a b)
  pub quiet : (a b : ℕ) → a < net.count → b < net.count → is_up net a b ≡ false → queue net a b ≡ []

module _ (net : Network) (o : Orderly net) where
  -- The network's count.
  abbrev n : ℕ
  n = net.count

  -- The queue from a to b may be replaced by one of proper messages, and by none where a's end is down.
  pub orderly_queue : (a b : ℕ) (ms : List Message) → a < n → b < n → Proper n a ms → (is_up net a b ≡ false → ms ≡ [])
      → Orderly (with_queue net a b ms)
  unfolding with_queue
  orderly_queue a b ms ha hb proper none =
      record {
        low = o.low;
        high = o.high;
        shape = shape_queue n net o.shape a b ms ha hb;
        counts = o.counts;
        own = o.own;
        fit = o.fit;
        shaped = o.shaped;
        queued = λ x y hx hy.
            by_place (λ (x y : ℕ) (q : List Message). Proper n x q) x y proper (o.queued x y hx hy);
        quiet = λ x y hx hy.
            by_place (λ (x y : ℕ) (q : List Message). is_up net x y ≡ false → q ≡ []) x y none (o.quiet x y hx hy);
      }
    where
      -- What holds of the new queue at its place, and of every other, holds of each.
      by_place : (P : (x y : ℕ) → List Message → Type 0) (x y : ℕ) → P a b ms → P x y (queue net x y)
          → P x y (queue (with_queue net a b ms) x y)
      by_place P x y here other =
          by_equal x a
          (λ xa. by_equal y b
          (λ yb. rw (xa, yb, queue_here n net o.shape a b ms ha hb) here)
          (λ yb. rw (queue_elsewhere n net o.shape a b ms ha hb x y (λ p q. yb q)) other))
          (λ xa. rw (queue_elsewhere n net o.shape a b ms ha hb x y (λ p q. xa p)) other)

  module _ (i : ℕ) (e : Event) (h : i < n) where
    -- The unit that the event is at, after step A; and its reaction.
    abbrev v : Unit
    v = noted (unit_at net i) e

    abbrev r : Reaction
    r = reaction (unit_at net i) e

    -- The unit then.
    here : unit_at (reacted net i r) i ≡ r.unit
    here = unit_here n net o.shape i r h

    -- Another unit.
    other : (x : ℕ) → x ≢ i → unit_at (reacted net i r) x ≡ unit_at net x
    other x d = unit_elsewhere net i r x d

    -- The unit's ends are as step A leaves them.
    pub end_here : (k : ℕ) → is_up (happens net i e) i k ≡ is_neighbour v k
    unfolding happens reaction reaction_by
    end_here k = rw here

    -- The ends of other units stay.
    pub end_other : (x k : ℕ) → x ≢ i → is_up (happens net i e) x k ≡ is_up net x k
    unfolding happens
    end_other x k d = rw (other x d)

    -- What holds of the unit after the reaction and of every other holds of each.
    by_unit : (P : ℕ → Unit → Type 0) → P i r.unit → ((x : ℕ) → x < n → P x (unit_at net x)) → (x : ℕ) → x < n
        → P x (unit_at (reacted net i r) x)
    by_unit P p q x hx = by_equal x i (λ xi. rw (xi, here) p) (λ xi. rw (other x xi) (q x hx))

    -- An event leaves the network orderly where whoever is owed an acknowledgment is a neighbour, and where no message is
    -- queued to a unit that no longer is.
    pub orderly_happens : fit_unit v ≡ true → ((k : ℕ) → k < n → k ≡ owed_of n e → is_neighbour v k ≡ true)
        → ((k : ℕ) → k < n → is_neighbour v k ≡ false → queue net i k ≡ []) → Orderly (happens net i e)
    unfolding happens reacted
    orderly_happens fit owed still =
        let facts : Reacted n i v (owed_of n e) r =
        subst₂ (λ (m j : ℕ). Reacted m j v (owed_of m e) r) (o.counts i h) (o.own i h)
        (reacted_to (unit_at net i) e (o.shaped i h) fit) in
        record {
          low = o.low;
          high = o.high;
          shape = shape_reacted n net o.shape i r h;
          counts = by_unit (λ x u. u.count ≡ n) facts.counted o.counts;
          own = by_unit (λ x u. u.me ≡ x) facts.named o.own;
          fit = by_unit (λ x u. fit_unit u ≡ true) facts.fit o.fit;
          shaped = by_unit (λ x u. ShapedUnit u) facts.shaped o.shaped;
          queued = λ x y hx hy.
              by_equal x i
              (λ xi. rw (xi, queue-from n net o.shape i r h y hy)
              (each_append (o.queued i y h hy) (facts.sent y hy)))
              (λ xi. rw (queue_of_other net i r x y xi) (o.queued x y hx hy));
          quiet = λ x y hx hy down.
              by_equal x i
              (λ xi.
              let closed : is_neighbour v y ≡ false =
              sym (end_here y) ∙ ap (λ (z : ℕ). is_up (happens net i e) z y) (sym xi) ∙ down in
              rw (
                xi,
                queue-from n net o.shape i r h y hy,
                still y hy closed,
                facts.silent y hy closed (λ q. not_both (is_neighbour v y) (owed y hy q) closed),
              ))
              (λ xi. queue_of_other net i r x y xi
              ∙ o.quiet x y hx hy (sym (end_other x y xi) ∙ down));
        }
