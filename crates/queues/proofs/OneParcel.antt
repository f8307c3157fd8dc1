-- The parcel at a place of a buffer: when it counts, and that it ends within the buffer. Then the one to a unit, found where
-- the parcels to the units before it end: what a turn of a loop over the units does with it.
use Prim.Native.Nat.{ℕ, zero, suc, ◌+◌, ◌-◌, ◌≤◌, ◌<◌}
use native.Mathlib.Numerals.{add-one}
use native.Mathlib.Omega.{arith}
use mathlib.Core.Bool.{Bool, not, ◌&&◌}
use mathlib.Core.List.{List}
use mathlib.Core.Logic.{◌≢◌}
use mathlib.Core.Path.{◌≡◌, sym, ap, ap₂, ◌∙◌}
use borrow.Author.Tests.{leb-true, le-leb, lt-leb, eq-eqb, ne_eqb}
use lib.Dec.{eqb}
use lib.ListN.{length}
use Rattle.std.specs.Prelude.{if◌then◌else◌}
use Rattle.ground.specs.Limits.{queue_room, message_room}
use Rattle.ground.specs.Rows.{at}
use Rattle.ground.proofs.Choices.{by_choice}
use Rattle.ground.proofs.Lists.{parts}
use Rattle.ground.proofs.Tests.{and_no}
use Rattle.rules.specs.Tables.{part}
use Rattle.queues.specs.Parcels.{parcel_length, is_whole, parcel_at, parcels_to, message_for, is_full, sent_to}
use Rattle.queues.specs.Queue.{queue_of, with_bytes, held_in, appended_of}

module _ (sent : List ℕ) (used k place : ℕ) where
  -- No parcel counts where more bytes are used than there are.
  pub past_buffer : length sent < used → parcel_at sent used k place ≡ 0
  unfolding parcel_at is_whole
  past_buffer h = simp (lt-leb used (length sent) h)

  -- None that ends past the bytes used does.
  pub past_used : used < place + parcel_length sent place → parcel_at sent used k place ≡ 0
  unfolding parcel_at is_whole
  past_used h = simp (lt-leb (place + parcel_length sent place) used h, and_no)

  -- None that is too long does.
  pub too_long : 1 + message_room < parcel_length sent place → parcel_at sent used k place ≡ 0
  unfolding parcel_at is_whole
  too_long h = simp (lt-leb (parcel_length sent place) (1 + message_room) h, and_no)

  -- None to another unit does.
  pub to_other : at sent place ≢ k → parcel_at sent used k place ≡ 0
  unfolding parcel_at
  to_other d = simp (ne_eqb (at sent place) k d, and_no)

  -- Any other counts.
  pub whole_parcel : used ≤ length sent → place + parcel_length sent place ≤ used → parcel_length sent place ≤ 1 + message_room
      → at sent place ≡ k → parcel_at sent used k place ≡ parcel_length sent place
  unfolding parcel_at is_whole
  whole_parcel inside ended short own =
      simp (
        le-leb used (length sent) inside,
        le-leb (place + parcel_length sent place) used ended,
        le-leb (parcel_length sent place) (1 + message_room) short,
        eq-eqb (at sent place) k own,
      )

-- A parcel at a place within the buffer ends within it.
parcel_within : (sent : List ℕ) (used k place : ℕ) → place ≤ length sent → place + parcel_at sent used k place ≤ length sent
unfolding parcel_at is_whole
parcel_within sent used k place h =
    by_choice (λ (parcel : ℕ). place + parcel ≤ length sent) (is_whole sent used place && eqb (at sent place) k)
    (parcel_length sent place) 0
    (λ e.
    omega (
      arith,
      leb-true used (length sent) (search parts),
      leb-true (place + parcel_length sent place) used (search parts),
    ))
    (λ e. omega arith)

-- So do the parcels to the units below k.
parcels_within : (sent : List ℕ) (used k : ℕ) → parcels_to sent used k ≤ length sent
unfolding parcels_to
parcels_within sent used zero = omega arith
parcels_within sent used (suc k) = parcel_within sent used k (parcels_to sent used k) (parcels_within sent used k)

module _ (sent : List ℕ) (used k : ℕ) {place parcel : ℕ} (ends : place ≡ parcels_to sent used k)
    (found : parcel ≡ parcel_at sent used k place) where
  -- It is the one of the definitions.
  parcel_is : parcel ≡ parcel_at sent used k (parcels_to sent used k)
  parcel_is = found ∙ ap (parcel_at sent used k) ends

  -- The parcels so far end after it.
  pub parcels_more : place + parcel ≡ parcels_to sent used (k + 1)
  unfolding parcels_to
  parcels_more = rw add-one (ap₂ ◌+◌ ends parcel_is)

  -- It is within the buffer.
  pub parcel_inside : place + parcel ≤ length sent
  parcel_inside = omega (arith, parcels_more, parcels_within sent used (k + 1))

  -- Whether it finds its queue full.
  pub full_is : (bytes : List ℕ) (i : ℕ) {full : Bool}
      → full ≡ (not (eqb parcel 0) && eqb (held_in (queue_of bytes i k)) queue_room) → is_full bytes i sent used k ≡ full
  unfolding is_full
  full_is bytes i e = rw (← parcel_is) (sym e)

  -- Its message at the end of its queue.
  pub sent_more : (bytes : List ℕ) (i : ℕ) {now : List ℕ} → now ≡ sent_to bytes i sent used k
      → (if eqb parcel 0 then now
      else with_bytes now i k (appended_of (queue_of now i k) (part sent (place + 1) (parcel - 1))))
      ≡ sent_to bytes i sent used (k + 1)
  unfolding sent_to message_for
  sent_more bytes i e = rw (add-one k, e, parcel_is, ends)
