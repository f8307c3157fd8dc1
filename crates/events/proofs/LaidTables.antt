-- A network's tables with one part laid anew are those of the network with another unit, or another queue, there.
use Prim.Native.Nat.{ℕ, ◌+◌, ◌*◌, ◌≤◌, ◌<◌}
use native.Mathlib.Omega.{arith}
use mathlib.Core.List.{List, ◌++◌, map, append_assoc}
use mathlib.Core.Logic.{◌≢◌, ⊎_elim}
use mathlib.Core.Path.{◌≡◌, refl, sym, ap, ◌∙◌}
use lib.ListN.{length, set, take, drop, length-set, length-take, length-drop, length-map, take-append-drop}
use lib.Seq.{paste, take-add, take-take, take_all, drop-drop, drop-append-le, length-paste, ext_get_or}
use lib.Seq.{get_or-set_same, get_or-set_other}
use Rattle.ground.specs.Limits.{unit_limit}
use Rattle.ground.specs.Rows.{tab, filled, joined}
use Rattle.rules.specs.Event.{Reaction}
use Rattle.rules.specs.Message.{Message}
use Rattle.rules.specs.Network.{Network, unit_at, queue, with_queue, reacted}
use Rattle.rules.specs.Tables.{unit_words, network_words, network_bytes, queue_bytes, queue_at, laid_unit, laid_units, laid_queue}
use Rattle.rules.specs.Tables.{laid_queues}
use Rattle.rules.specs.Unit.{fresh_unit}
use Rattle.queues.specs.Queue.{queue_of, with_bytes}
use Rattle.fitness.specs.UnitTables.{with_table}
use Rattle.ground.proofs.Filled.{length_filled}
use Rattle.ground.proofs.Lists.{Blocks, blocks_tab, length_joined, map_blocks}
use Rattle.ground.proofs.Rows.{length_tab, tab_at, tab_ext}
use Rattle.ground.proofs.Stored.{map_set, block_filled}
use Rattle.ground.proofs.Tests.{equal_or_not}
use Rattle.rules.proofs.Laid.{ShapedUnit, ShapedQueue, laid_unit_length, laid_queue_length}
use Rattle.rules.proofs.LaidNetwork.{ShapedNetwork, laid_units_length, laid_queues_length, queue_part}
use Rattle.ground.proofs.Cases.{by_equal}
use Rattle.steps.proofs.NetworkLists.{Shape, queue_here, queue_elsewhere, shape_queue}
use Rattle.queues.proofs.QueueThere.{There as QueueThere, queue_is_part, put_is_paste as queue-put-is-paste}
use Rattle.fitness.proofs.TableThere.{put_is_paste}
use Rattle.fitness.proofs.Tiles.{tile}

-- A row with another element at place i is made from the function that gives it there.
set_tab {ℓ} : {A : Type ℓ} (n : ℕ) (f g : ℕ → A) (i : ℕ) → i < n → ((j : ℕ) → j < n → j ≢ i → f j ≡ g j)
    → set (tab n f) i (g i) ≡ tab n g
set_tab n f g i h others =
    ext_get_or (g i) (set (tab n f) i (g i)) (tab n g) (length-set (tab n f) i (g i) ∙ length_tab n f ∙ sym (length_tab n g))
    (λ j l.
    let below : j < n = omega (arith, length-set (tab n f) i (g i), length_tab n f) in
    ⊎_elim
    (λ e. rw e (get_or-set_same (tab n f) i (g i) (g i) (rw length_tab h) ∙ sym (tab_at n g i (g i) h)))
    (λ d. get_or-set_other (tab n f) i j (g i) (g i) d ∙ tab_at n f j (g i) below ∙ others j below d
    ∙ sym (tab_at n g j (g i) below))
    (equal_or_not j i))

-- Lists f 0, f 1, .. of w numbers, laid one after the other and filled up with zeros to m places.
module _ (w n m : ℕ) (f : ℕ → List ℕ) (wide : (i : ℕ) → i < n → length (f i) ≡ w) where
  -- They are blocks.
  blocks : Blocks w (tab n f)
  blocks = blocks_tab w n f wide

  -- They fill m places where they are no more.
  pub tiles_length : n * w ≤ m → length (filled m (joined (tab n f))) ≡ m
  tiles_length fits =
      length_filled m (joined (tab n f))
      (omega (arith, length_joined w (tab n f) blocks, ap (λ (k : ℕ). k * w) (length_tab n f)))

  -- Another list laid over list i.
  pub tile_stored : (g : ℕ → List ℕ) (i : ℕ) → i < n → length (g i) ≡ w → ((j : ℕ) → j < n → j ≢ i → f j ≡ g j)
      → paste (filled m (joined (tab n f))) (i * w) (g i) w ≡ filled m (joined (tab n g))
  tile_stored g i h long others =
      block_filled w (tab n f) blocks i (rw length_tab h) (g i) long m
      ∙ ap (λ (bs : List (List ℕ)). filled m (joined bs)) (set_tab n f g i h others)

-- A list laid over a stretch of a part of another is laid over that part, which is then put back.
pub paste_part : (xs : List ℕ) (from w place : ℕ) (ys : List ℕ) (m : ℕ) → from + w ≤ length xs → place + m ≤ w
    → m ≤ length ys → paste xs (from + place) ys m ≡ paste xs from (paste (take w (drop from xs)) place ys m) w
paste_part xs from w place ys m inside fits long =
    let whole : List ℕ = drop from xs in
    let inner : List ℕ = take w whole in
    let wide : length inner ≡ w = omega (arith, length-take w whole, length-drop from xs) in
    let end : from + place + m ≡ from + (place + m) = omega arith in
    let after : drop (place + m) whole ≡ drop (place + m) inner ++ drop w whole =
    ap (drop (place + m)) (sym (take-append-drop w whole))
    ∙ drop-append-le (place + m) inner (drop w whole) (omega arith) in
    rw (
      take_all w (paste inner place ys m) (omega (arith, length-paste inner place ys m (omega arith) long)),
      take-add from place xs,
      take-take place w whole (omega arith),
      end,
      ← drop-drop (place + m) from xs,
      ← drop-drop w from xs,
      after,
    )
    (simp append_assoc)

-- A network's lists have their places.
pub shape_of : {net : Network} → ShapedNetwork net → Shape net.count net
shape_of s = record { counted = refl; units_length = s.units; queues_length = s.queues; rows_length = s.row }

-- The tables with the table that a unit's reaction leaves are those of the network in which it has reacted.
pub table_laid : (net : Network) → ShapedNetwork net → (i : ℕ) → i < net.count → (r : Reaction) → ShapedUnit r.unit
    → with_table (laid_units net) i (laid_unit r.unit) ≡ laid_units (reacted net i r)
unfolding laid_units reacted
table_laid net s i h r after =
    put_is_paste (laid_units net) i
    (record { long = laid_units_length net s; unit = omega (arith, s.high) }) (laid_unit r.unit)
    ∙ block_filled unit_words (map laid_unit net.units)
    (map_blocks unit_words laid_unit net.units (fresh_unit 0 0)
    (λ k l. laid_unit_length (unit_at net k) (s.unit k (rw (← s.units) l))))
    i (rw (length-map net.units laid_unit, s.units) h)
    (laid_unit r.unit) (laid_unit_length r.unit after) network_words
    ∙ ap (λ (bs : List (List ℕ)). filled network_words (joined bs)) (sym (map_set laid_unit net.units i r.unit))

-- The bytes of the queues of one sender.
abbrev row_bytes : ℕ
row_bytes = unit_limit * queue_bytes

-- What the queue from a to b lays out.
abbrev laid_to : Network → (a b : ℕ) → List ℕ
laid_to net a b = laid_queue (queue net a b)

-- What the queues of sender a lay out.
abbrev laid_from : Network → (a : ℕ) → List ℕ
laid_from net a = filled row_bytes (joined (tab net.count (laid_to net a)))

-- The queues of a sender that are the same in two networks are laid alike.
from_same : (net other : Network) → net.count ≡ other.count → (a : ℕ)
    → ((b : ℕ) → b < net.count → queue net a b ≡ queue other a b) → laid_from net a ≡ laid_from other a
from_same net other e a same =
    ap (λ (bs : List (List ℕ)). filled row_bytes (joined bs))
    (tab_ext net.count (laid_to net a) (laid_to other a) (λ b h. ap laid_queue (same b h))
    ∙ ap (λ (n : ℕ). tab n (laid_to other a)) e)

-- Networks whose queues are the same lay them alike.
pub queues_same : (net other : Network) → net.count ≡ other.count
    → ((a b : ℕ) → a < net.count → b < net.count → queue net a b ≡ queue other a b) → laid_queues net ≡ laid_queues other
unfolding laid_queues
queues_same net other e same =
    ap (λ (bs : List (List ℕ)). filled network_bytes (joined bs))
    (tab_ext net.count (laid_from net) (laid_from other) (λ a h. from_same net other e a (λ b l. same a b h l))
    ∙ ap (λ (n : ℕ). tab n (laid_from other)) e)

module _ (net : Network) (s : ShapedNetwork net) where
  -- Each queue has its bytes.
  to_wide : (a b : ℕ) → a < net.count → b < net.count → length (laid_to net a b) ≡ queue_bytes
  to_wide a b ha hb = laid_queue_length net.count s.high (queue net a b) (s.each a b ha hb)

  -- So have the queues of one sender.
  from_wide : (a : ℕ) → a < net.count → length (laid_from net a) ≡ row_bytes
  from_wide a h =
      tiles_length queue_bytes net.count row_bytes (laid_to net a) (λ b l. to_wide a b h l) (omega (arith, s.high))

module _ (net : Network) (s : ShapedNetwork net) (a b : ℕ) (ha : a < net.count) (hb : b < net.count) where
  -- There is a queue from a to b among the bytes.
  queue_among : QueueThere (laid_queues net) a b
  queue_among =
      record { long = laid_queues_length net s; sends = omega (arith, s.high); gets = omega (arith, s.high) }

  -- Its bytes.
  pub queue_found : queue_of (laid_queues net) a b ≡ laid_queue (queue net a b)
  queue_found = queue_is_part (laid_queues net) a b queue_among ∙ queue_part net s a b ha hb

module _ (net : Network) (s : ShapedNetwork net) (a b : ℕ) (ha : a < net.count) (hb : b < net.count) (ms : List Message)
    (q : ShapedQueue net.count ms) where
  -- The network's count.
  abbrev n : ℕ
  n = net.count

  -- The network with another queue from a to b.
  abbrev after : Network
  after = with_queue net a b ms

  -- That queue.
  here : queue after a b ≡ ms
  here = queue_here n net (shape_of s) a b ms ha hb

  -- Any other.
  other : (x y : ℕ) → (x ≡ a → y ≡ b → ⊥) → queue net x y ≡ queue after x y
  other x y d = sym (queue_elsewhere n net (shape_of s) a b ms ha hb x y d)

  -- The network is shaped.
  pub shaped_after : ShapedNetwork after
  unfolding with_queue
  shaped_after =
      let shape : Shape n after = shape_queue n net (shape_of s) a b ms ha hb in
      record {
        low = s.low;
        high = s.high;
        units = s.units;
        counts = s.counts;
        unit = s.unit;
        queues = shape.queues_length;
        row = shape.rows_length;
        each = λ x y hx hy.
            by_equal x a
            (λ xa. by_equal y b
            (λ yb. rw (xa, yb, here) q)
            (λ yb. rw (← other x y (λ _ e. yb e)) (s.each x y hx hy)))
            (λ xa. rw (← other x y (λ e _. xa e)) (s.each x y hx hy));
      }

  -- Sender a's part of the bytes.
  from_part : take row_bytes (drop (a * row_bytes) (laid_queues net)) ≡ laid_from net a
  unfolding laid_queues
  from_part = tile row_bytes n network_bytes (laid_from net) (from_wide net s) a ha

  -- The queues of sender a with the other queue to b.
  from_stored : paste (laid_from net a) (b * queue_bytes) (laid_to after a b) queue_bytes ≡ laid_from after a
  unfolding with_queue
  from_stored =
      tile_stored queue_bytes n row_bytes (laid_to net a) (λ y l. to_wide net s a y ha l) (laid_to after a) b hb
      (to_wide after shaped_after a b ha hb)
      (λ y h d. ap laid_queue (other a y (λ _ e. d e)))

  -- The queues of all with those of sender a.
  all_stored : paste (laid_queues net) (a * row_bytes) (laid_from after a) row_bytes ≡ laid_queues after
  unfolding laid_queues with_queue
  all_stored =
      tile_stored row_bytes n network_bytes (laid_from net) (from_wide net s) (laid_from after) a ha
      (from_wide after shaped_after a ha)
      (λ x h d. from_same net after refl x (λ y l. other x y (λ e _. d e)))

  -- The bytes of the other queue, laid over those of this one.
  pasted : paste (laid_queues net) (queue_at a b) (laid_queue ms) queue_bytes ≡ laid_queues after
  pasted =
      let place : queue_at a b ≡ a * row_bytes + b * queue_bytes = omega arith in
      let wide : length (laid_queue ms) ≡ queue_bytes = laid_queue_length n s.high ms q in
      rw (
        place,
        paste_part (laid_queues net) (a * row_bytes) row_bytes (b * queue_bytes) (laid_queue ms) queue_bytes
            (omega (arith, laid_queues_length net s, s.high)) (omega (arith, s.high)) (omega arith),
        from_part,
      )
      (ap (λ (x : List Message). paste (laid_queues net) (a * row_bytes)
      (paste (laid_from net a) (b * queue_bytes) (laid_queue x) queue_bytes) row_bytes) (sym here)
      ∙ ap (λ (row : List ℕ). paste (laid_queues net) (a * row_bytes) row row_bytes) from_stored
      ∙ all_stored)

  -- The bytes with the bytes of the other queue.
  pub queue_laid : with_bytes (laid_queues net) a b (laid_queue ms) ≡ laid_queues after
  queue_laid = queue-put-is-paste (laid_queues net) a b (queue_among net s a b ha hb) (laid_queue ms) ∙ pasted
