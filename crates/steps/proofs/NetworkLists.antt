-- A network's lists: a unit and a row of queues for each number below n, and in each row a queue for each. What can be
-- read from them after a queue was replaced, and after a unit has reacted: everything else stays.
use Prim.Native.Nat.{ℕ, ◌<◌}
use native.Mathlib.Omega.{arith}
use mathlib.Core.List.{List, [], ◌++◌}
use mathlib.Core.Logic.{◌≢◌}
use mathlib.Core.Path.{◌≡◌, refl, sym, ap, ◌∙◌}
use lib.ListN.{length, get_or, set, length-set}
use lib.Seq.{get_or-set_same, get_or-set_other}
use Rattle.ground.proofs.Rows.{tab_at, length_tab}
use Rattle.rules.specs.Event.{Reaction}
use Rattle.rules.specs.Message.{Message}
use Rattle.rules.specs.Network.{Network, unit_at, queue, with_queue, reacted}
use Rattle.rules.specs.Unit.{fresh_unit}
use Rattle.ground.proofs.Cases.{by_equal}

pub record Shape (n : ℕ) (net : Network) : Type 0 where
  pub counted : net.count ≡ n
  pub units_length : length net.units ≡ n
  pub queues_length : length net.queues ≡ n
  pub rows_length : (a : ℕ) → a < n → length (get_or net.queues a []) ≡ n

-- A list of rows with one row replaced by another of n places has n places in each row.
rows_set : (n : ℕ) (rows : List (List (List Message))) (a : ℕ) (row : List (List Message))
    → ((x : ℕ) → x < n → length (get_or rows x []) ≡ n) → length rows ≡ n → length row ≡ n
    → (x : ℕ) → x < n → length (get_or (set rows a row) x []) ≡ n
rows_set n rows a row each l r x h =
    by_equal x a
    (λ e. ap (λ (y : ℕ). length (get_or (set rows a row) y [])) e
    ∙ ap length (get_or-set_same rows a row [] (omega arith)) ∙ r)
    (λ e. ap length (get_or-set_other rows a x row [] e) ∙ each x h)

module _ (net : Network) (i : ℕ) (r : Reaction) where
  -- Any other unit than the one that reacted stays.
  pub unit_elsewhere : (k : ℕ) → k ≢ i → unit_at (reacted net i r) k ≡ unit_at net k
  unfolding reacted
  unit_elsewhere k e = get_or-set_other net.units i k r.unit (fresh_unit 0 0) e

  -- So do the queues out of any other.
  pub queue_of_other : (x y : ℕ) → x ≢ i → queue (reacted net i r) x y ≡ queue net x y
  unfolding reacted
  queue_of_other x y e =
      ap (λ (row : List (List Message)). get_or row y []) (get_or-set_other net.queues i x _ [] e)

module _ (n : ℕ) (net : Network) (shape : Shape n net) where
  module _ (a b : ℕ) (messages : List Message) (ha : a < n) (hb : b < n) where
    -- The queue that was replaced.
    pub queue_here : queue (with_queue net a b messages) a b ≡ messages
    unfolding with_queue
    queue_here =
        ap (λ (row : List (List Message)). get_or row b [])
        (get_or-set_same net.queues a _ [] (rw shape.queues_length ha))
        ∙ get_or-set_same (get_or net.queues a []) b messages [] (rw (shape.rows_length a ha) hb)

    -- Any other queue.
    pub queue_elsewhere : (x y : ℕ) → (x ≡ a → y ≡ b → ⊥) → queue (with_queue net a b messages) x y ≡ queue net x y
    unfolding with_queue
    queue_elsewhere x y other =
        by_equal x a
        (λ e. ap (λ (z : ℕ). queue (with_queue net a b messages) z y) e
        ∙ ap (λ (row : List (List Message)). get_or row y [])
        (get_or-set_same net.queues a _ [] (rw shape.queues_length ha))
        ∙ get_or-set_other (get_or net.queues a []) b y messages [] (other e)
        ∙ ap (λ (z : ℕ). queue net z y) (sym e))
        (λ e. ap (λ (row : List (List Message)). get_or row y []) (get_or-set_other net.queues a x _ [] e))

    -- The units stay.
    pub units_stay : (x : ℕ) → unit_at (with_queue net a b messages) x ≡ unit_at net x
    unfolding with_queue
    units_stay x = refl

    -- The lists keep their places.
    pub shape_queue : Shape n (with_queue net a b messages)
    unfolding with_queue
    shape_queue =
        record {
          counted = shape.counted;
          units_length = shape.units_length;
          queues_length = length-set net.queues a _ ∙ shape.queues_length;
          rows_length = rows_set n net.queues a _ shape.rows_length shape.queues_length
              (length-set (get_or net.queues a []) b messages ∙ shape.rows_length a ha);
        }

  module _ (i : ℕ) (r : Reaction) (h : i < n) where
    -- The unit that reacted.
    pub unit_here : unit_at (reacted net i r) i ≡ r.unit
    unfolding reacted
    unit_here = get_or-set_same net.units i r.unit (fresh_unit 0 0) (rw shape.units_length h)

    -- The queues out of the unit that reacted.
    pub queue-from : (k : ℕ) → k < n → queue (reacted net i r) i k ≡ queue net i k ++ get_or r.sent k []
    unfolding reacted
    queue-from k l =
        ap (λ (row : List (List Message)). get_or row k [])
        (get_or-set_same net.queues i _ [] (rw shape.queues_length h))
        ∙ tab_at net.count (λ x. queue net i x ++ get_or r.sent x []) k [] (rw shape.counted l)

    -- The lists keep their places.
    pub shape_reacted : Shape n (reacted net i r)
    unfolding reacted
    shape_reacted =
        record {
          counted = shape.counted;
          units_length = length-set net.units i r.unit ∙ shape.units_length;
          queues_length = length-set net.queues i _ ∙ shape.queues_length;
          rows_length = rows_set n net.queues i _ shape.rows_length shape.queues_length
              (length_tab net.count _ ∙ shape.counted);
        }

-- The network with both queues of the link between a and b emptied.
abbrev pub emptied : Network → (a b : ℕ) → Network
emptied net a b = with_queue (with_queue net a b []) b a []

module _ (n : ℕ) (net : Network) (shape : Shape n net) (a b : ℕ) (ha : a < n) (hb : b < n) where
  -- Its queue from b to a is empty.
  pub emptied_back : queue (emptied net a b) b a ≡ []
  emptied_back = queue_here n (with_queue net a b []) (shape_queue n net shape a b [] ha hb) b a [] hb ha

  -- So is its queue from a to b.
  pub emptied_there : a ≢ b → queue (emptied net a b) a b ≡ []
  emptied_there d =
      queue_elsewhere n (with_queue net a b []) (shape_queue n net shape a b [] ha hb) b a [] hb ha a b (λ p q. d p)
      ∙ queue_here n net shape a b [] ha hb
