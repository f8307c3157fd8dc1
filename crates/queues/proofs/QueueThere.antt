-- One queue among the bytes of all: its bytes are a part of them, and other bytes for it are laid over that part.
use Prim.Native.Nat.{ℕ, ◌+◌, ◌*◌, ◌≤◌, ◌<◌}
use native.Mathlib.Omega.{arith}
use mathlib.Core.Bool.{true, false}
use mathlib.Core.List.{List}
use mathlib.Core.Path.{◌≡◌, sym, ◌∙◌}
use borrow.Author.Tests.{eq-eqb, eqb-true, ltb-true, lt-ltb}
use lib.Dec.{eqb}
use lib.ListN.{length}
use lib.Seq.{paste}
use Rattle.ground.specs.Limits.{unit_limit, queue_room, message_room}
use Rattle.ground.specs.Rows.{at, zeros}
use Rattle.ground.proofs.Lists.{parts}
use Rattle.ground.proofs.Rows.{lowest_le}
use Rattle.ground.proofs.Tests.{both_of, if_true, if_false}
use Rattle.rules.specs.Tables.{part, queue_bytes, network_bytes, queue_at}
use Rattle.queues.specs.Queue.{has_queue, queue_of, with_bytes, held_in}
use Rattle.slices.specs.Slices.{laid_over}
use Rattle.slices.proofs.Stretches.{copied, replaced}

-- A queue holds at most queueRoom messages.
pub held_most : (queue : List ℕ) → held_in queue ≤ queue_room
unfolding held_in
held_most queue = lowest_le queue_room (λ i. eqb (at queue (i * message_room)) 0)

-- Bytes of all queues, among which one leads from a to b.
pub record There (bytes : List ℕ) (a b : ℕ) : Type 0 where
  pub long : length bytes ≡ network_bytes
  pub sends : a < unit_limit
  pub gets : b < unit_limit

module _ (bytes : List ℕ) (a b : ℕ) where
  -- The test tells so.
  pub there_of : has_queue bytes a b ≡ true → There bytes a b
  unfolding has_queue
  there_of e =
      record {
        long = eqb-true (length bytes) network_bytes (search parts);
        sends = ltb-true a unit_limit (search parts);
        gets = ltb-true b unit_limit (search parts);
      }

  -- Where it fails there are zeros.
  pub load_none : has_queue bytes a b ≡ false → zeros queue_bytes ≡ queue_of bytes a b
  unfolding queue_of
  load_none e = sym (if_false (has_queue bytes a b) _ _ e)

  -- And other bytes change nothing.
  pub put_none : (queue : List ℕ) → has_queue bytes a b ≡ false → bytes ≡ with_bytes bytes a b queue
  unfolding with_bytes
  put_none queue e = sym (if_false (has_queue bytes a b) _ _ e)

  module _ (t : There bytes a b) where
    -- The test holds.
    there : has_queue bytes a b ≡ true
    unfolding has_queue
    there =
        both_of _ _ (eq-eqb _ _ t.long)
        (both_of _ _ (lt-ltb a unit_limit t.sends) (lt-ltb b unit_limit t.gets))

    -- The queue's bytes are a part of all.
    pub queue_is_part : queue_of bytes a b ≡ part bytes (queue_at a b) queue_bytes
    unfolding queue_of
    queue_is_part = if_true _ _ _ there

    -- Other bytes for it are laid over that part.
    pub put_is_paste : (queue : List ℕ) → with_bytes bytes a b queue ≡ paste bytes (queue_at a b) queue queue_bytes
    unfolding with_bytes
    put_is_paste queue = if_true _ _ _ there

    -- That part lies within all.
    pub queue_inside : queue_at a b + queue_bytes ≤ length bytes
    queue_inside = omega arith

    -- The part, laid over zeros, is the queue.
    pub load_there : {queue : List ℕ} → queue ≡ part bytes (queue_at a b) queue_bytes
        → laid_over (zeros queue_bytes) 0 queue ≡ queue_of bytes a b
    load_there e = copied bytes (queue_at a b) queue_bytes queue_inside e ∙ sym queue_is_part

    -- Other bytes, laid over all from where the queue begins.
    pub put_there : (queue : List ℕ) → length queue ≡ queue_bytes → {place : ℕ} → place ≡ queue_at a b
        → laid_over bytes place queue ≡ with_bytes bytes a b queue
    put_there queue wide e =
        replaced bytes (queue_at a b) queue_bytes queue_inside queue wide e ∙ sym (put_is_paste queue)
